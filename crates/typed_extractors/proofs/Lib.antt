pub mod Reaching
pub mod Refusing
pub mod Arguments
pub mod PageParts
pub mod CallerLemmas
