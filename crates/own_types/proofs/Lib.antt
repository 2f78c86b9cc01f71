pub mod Colors
pub mod Folders
