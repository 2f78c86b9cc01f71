pub mod Frames
pub mod Sources
pub mod Memory
pub mod Bodies
pub mod Dumping
pub mod Texts
