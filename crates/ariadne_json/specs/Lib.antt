pub mod Cuts
pub mod Escapes
pub mod Mended
pub mod Pieces
pub mod Reading
