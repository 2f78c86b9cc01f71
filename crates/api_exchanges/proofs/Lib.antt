pub mod Causes
mod Reached
mod Given
mod BodyReads
pub mod Denoted
pub mod Told
mod Sources
pub mod CallerLemmas
