-- Row numbers that read a picture agree: on source rows, and on the heads and messages of gutter labels.
pub mod LinesFound
pub mod MessagesFound
pub mod StrokesFound
pub mod InlineRows
pub mod TwinsFound
pub mod ReadingsAgree
