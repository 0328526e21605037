pub mod Gathering
pub mod Lists
pub mod Scans
pub mod Walks
