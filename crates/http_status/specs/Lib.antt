pub mod ErrorBodies
pub mod ErrorLines
pub mod Errors
pub mod Responses
pub mod Texts
