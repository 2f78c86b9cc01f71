pub mod ShortSlots
pub mod CallerLemmas
