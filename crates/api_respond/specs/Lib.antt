pub mod Contexts
pub mod Replies
pub mod NamedHeaders
pub mod Responses
pub mod Encodes
