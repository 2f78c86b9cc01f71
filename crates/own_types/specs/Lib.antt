pub mod Labels
pub mod Colors
pub mod Folders
