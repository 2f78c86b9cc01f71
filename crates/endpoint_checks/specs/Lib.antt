pub mod Names
pub mod Tags
pub mod Paths
pub mod Types
pub mod Slots
pub mod Codes
pub mod Clashes
pub mod EndpointIndexes
