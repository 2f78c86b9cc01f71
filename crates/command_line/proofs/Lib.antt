pub mod VersionErrors
pub mod WordLemmas
pub mod ServingLemmas
pub mod CallerLemmas
