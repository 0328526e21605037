-- What a picture tells that is read back, row by row.
pub mod RowKinds
pub mod RowPlaces
pub mod BlockRows
pub mod LineTexts
pub mod LineFound
pub mod FirstStrokes
pub mod FirstCells
pub mod HeadTurns
pub mod MessageKinds
pub mod ToldWithin
pub mod ToldOver
pub mod AllTold
pub mod EveryPicture
pub mod HeadersTold
pub mod ReportsRead
