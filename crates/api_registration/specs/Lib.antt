pub mod Texts
pub mod Registering
pub mod Accepted
