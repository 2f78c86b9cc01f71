pub mod ResponseBodies
pub mod ReplyLines
