pub mod Handlers
pub mod Endpoints
pub mod FirstStore
