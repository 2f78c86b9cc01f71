pub mod Found
pub mod NameOrder
pub mod Indexing
pub mod Copied
pub mod EqualParts
pub mod EqualTrees
pub mod EqualDescs
pub mod CallerLemmas
