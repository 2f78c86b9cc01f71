pub mod SlotsReach
pub mod Selectors
pub mod SlotAdditions
pub mod Taken
pub mod PageTrees
pub mod Texts
