pub mod Definitions
pub mod Index
pub mod NewNames
pub mod Adding
