pub mod Order
pub mod Ranges
pub mod Shown
pub mod Overlaps
pub mod HeaderVersions
pub mod Policies
