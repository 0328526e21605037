pub mod Cutting
pub mod Ends
pub mod Parts
