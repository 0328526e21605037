-- The cells of a row, by its name.
pub mod CanvasRows
pub mod LineColumns
pub mod CutLines
pub mod RowCells
pub mod MarginTexts
pub mod RowColumns
pub mod GutterInks
pub mod InkCells
pub mod GutterStrokes
