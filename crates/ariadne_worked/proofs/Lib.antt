-- Worked pictures, by computation: each theorem gives the bytes that a report is drawn as.
pub mod Unfold
pub mod Sample
mod InlinePictures
mod LonePictures
mod ColumnPictures
mod ContextPictures
mod CutPictures
mod CutReadings
mod GroupPictures
mod LongLabelPictures
mod AsidePictures
mod CompactPictures
mod ColorPictures
mod JudgedLabels
mod VariedPictures
mod VariedColorPictures
pub mod Readings
mod Changes
mod WrongPictures
mod WrongUnicodePictures
mod WrongPlacings
mod StrayStrokes
mod StrayGutterStrokes
mod WrongColors
mod WrongTextColors
mod WrongOtherRows
mod WrongLonePictures
mod WrongShownLines
mod TwoReadings
mod OddReports
pub mod Premises
mod ReadBack
mod Sentences
mod Outcomes
mod Results
