pub mod Structs
pub mod ByBytes
pub mod Values
pub mod Parameters
pub mod Modes
pub mod WellTyped
pub mod Shown
