pub mod Texts
pub mod CutNumbers
