pub mod CodelessShapes
pub mod CallerLemmas
