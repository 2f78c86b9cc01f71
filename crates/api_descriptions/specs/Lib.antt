pub mod Refusals
pub mod Ready
pub mod Information
pub mod Written
pub mod Agreement
