pub mod Labels
pub mod Types
pub mod Folders
pub mod Shapes
pub mod Operations
