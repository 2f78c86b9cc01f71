pub mod Values
pub mod Codes
pub mod Serving
pub mod Keys
