pub mod Points
pub mod FolderCounts
