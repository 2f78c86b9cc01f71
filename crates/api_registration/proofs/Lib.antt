pub mod FirstTold
pub mod Accepted
pub mod ServedOnce
pub mod CallerLemmas
