pub mod Conversions
pub mod Ranges
pub mod Tables
pub mod Texts
