pub mod Flaws
pub mod Gathered
pub mod Streams
pub mod Texts
pub mod Whole
