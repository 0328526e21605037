pub mod Based
pub mod Filled
