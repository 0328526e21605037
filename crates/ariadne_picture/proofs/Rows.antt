-- The rows of a group, by their names.
pub mod NearLines
pub mod RowOrder
pub mod LoneRows
pub mod BarCases
pub mod GutterLabelRows
pub mod RowsThere
pub mod RowNumbers
pub mod LineBlock
pub mod RowPlacing
pub mod OnlyRows
