pub mod Editors
pub mod EntryFaults
pub mod MatcherTables
pub mod Options
pub mod Patterns
pub mod TableMembers
pub mod TableRefusals
