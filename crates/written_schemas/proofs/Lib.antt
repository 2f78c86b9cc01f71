mod SchemaForms
mod SchemaMembers
mod NotRefused
mod DrawnParts
mod Written
pub mod Notes
pub mod Scalars
pub mod Composites
pub mod Counted
pub mod Enumerations
pub mod Structs
pub mod Maps
pub mod Sorted
pub mod Fields
pub mod Costs
pub mod Forms
pub mod VariantForms
pub mod Truths
pub mod FoundByName
pub mod ExternalVariants
pub mod TaggedVariants
pub mod AtOneValue
pub mod VariantChoices
pub mod Agreement
pub mod EachValue
pub mod Sizes
pub mod Inside
pub mod Budget
pub mod Rooms
pub mod Whole
pub mod MoreSteps
pub mod BodyLemmas
pub mod KeyedMembers
pub mod SoundForms
pub mod SoundSchemas
pub mod CallerLemmas
