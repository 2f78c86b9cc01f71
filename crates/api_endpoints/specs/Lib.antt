pub mod Endpoints
pub mod NewErrors
pub mod NewEndpoints
