pub mod Policies
pub mod Details
pub mod Configurations
