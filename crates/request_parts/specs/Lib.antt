pub mod Requests
pub mod ContentTypes
pub mod Wire
