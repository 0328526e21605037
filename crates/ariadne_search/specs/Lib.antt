pub mod Folders
pub mod Make
pub mod Search
