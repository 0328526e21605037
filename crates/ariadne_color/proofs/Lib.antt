pub mod CutShort
pub mod Decimals
pub mod Turns
