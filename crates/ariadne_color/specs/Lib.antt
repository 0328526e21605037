pub mod Colors
pub mod Escapes
pub mod Generator
