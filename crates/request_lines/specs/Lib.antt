pub mod RequestLines
pub mod Said
