pub mod Github
pub mod Located
pub mod Passing
pub mod Sarif
pub mod SequenceViews
pub mod Sequences
pub mod Short
pub mod Terminal
