-- What moves nothing: colours, and what offsets count.
pub mod Outlines
pub mod Colors
pub mod Bytes
pub mod CharLabels
pub mod Escapes
pub mod CleanTexts
pub mod CleanPieces
pub mod PlainTexts
pub mod ColorsMoveNothing
