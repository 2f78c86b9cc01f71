pub mod Inside
pub mod Choices
pub mod Headers
pub mod Values
