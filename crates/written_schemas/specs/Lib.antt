pub mod Reached
pub mod Written
pub mod Bodies
