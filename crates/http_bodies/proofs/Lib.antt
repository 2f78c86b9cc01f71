pub mod CallerLemmas
mod Dumping
mod Taken
