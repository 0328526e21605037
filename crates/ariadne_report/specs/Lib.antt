pub mod CacheReads
pub mod Counting
pub mod DrawnGroups
pub mod HeaderPlaces
pub mod Judging
pub mod Kinds
pub mod LabelEquality
pub mod Progress
