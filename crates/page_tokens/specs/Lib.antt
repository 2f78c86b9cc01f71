pub mod Forms
pub mod Encoded
pub mod Reaching
pub mod Tokens
pub mod Texts
