pub mod EachEntry
pub mod Matchers
pub mod MemberNames
pub mod Refusals
pub mod RowFaults
pub mod Texts
pub mod Words
pub mod Zipped
