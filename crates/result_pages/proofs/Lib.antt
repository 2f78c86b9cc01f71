pub mod Orders
pub mod Clashes
pub mod NextPages
