pub mod Shapes
pub mod Answered
