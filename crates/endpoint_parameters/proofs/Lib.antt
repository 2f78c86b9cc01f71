pub mod Firsts
pub mod FirstPlaces
pub mod Chains
pub mod Resolving
pub mod ParameterNames
pub mod CallerLemmas
