pub mod ShownSlots
pub mod Agreement
