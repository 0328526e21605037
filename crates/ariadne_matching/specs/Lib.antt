pub mod HandedOver
pub mod MatchedFiles
pub mod MatchedReports
pub mod OwnTables
pub mod SettledLines
pub mod TriedMatchers
