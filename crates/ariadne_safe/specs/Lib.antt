pub mod Visible
pub mod Kept
pub mod Pictures
pub mod Sources
pub mod SafeReports
pub mod SafeBuilding
