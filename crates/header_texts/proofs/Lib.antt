pub mod HeaderFits
pub mod CallerLemmas
