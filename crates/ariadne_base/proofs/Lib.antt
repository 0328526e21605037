-- Lines and locations.
pub mod LineLaws
pub mod TableLemmas
pub mod LocationLemmas
pub mod StartLemmas
pub mod CutOut
pub mod RangeLemmas
pub mod Scanning
-- Colours.
-- Caches.
pub mod Lookups
pub mod Paths
pub mod Numbers
-- Text in blocks: characters and their bytes, lanes and masks.
pub mod CharStarts
pub mod CharPlaces
pub mod SeparatorBytes
pub mod Lanes
pub mod BlockMarks
