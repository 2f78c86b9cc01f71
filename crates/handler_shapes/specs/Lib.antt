pub mod ScalarTypes
pub mod Arguments
pub mod ShapeChecks
pub mod ShapeLengths
pub mod SlotFields
pub mod BodySlots
