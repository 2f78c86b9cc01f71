pub mod Prefixes
pub mod Numbers
pub mod CutNumbers
pub mod NameOrder
pub mod Pairs
pub mod HeaderLines
pub mod MediaTypes
