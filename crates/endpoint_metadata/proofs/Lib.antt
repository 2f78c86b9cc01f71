pub mod Structs
pub mod AskedNames
pub mod SchemasInOrder
pub mod OneMore
pub mod ShownSlots
pub mod CallerLemmas
