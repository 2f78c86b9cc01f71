pub mod CutAlike
pub mod FarNumbers
pub mod LevelLemmas
pub mod Measure
pub mod ObjectLemmas
pub mod PartMaps
pub mod RefusalLevels
pub mod RoomLemmas
pub mod SameText
pub mod SchemaLevels
pub mod Stands
pub mod ParameterRead
pub mod ListedOperations
pub mod ListedResponses
pub mod ConformingBodies
pub mod JsonBodies
pub mod Steps
pub mod SoundLevels
pub mod StepsLeft
pub mod ResolvedSteps
pub mod TextWithin
pub mod SchemasOfDocument
pub mod Keyed
mod SoundObjects
pub mod SoundDocuments
mod SchemaInduction
mod KeyedEntries
mod SoundWithin
mod SoundBehind
mod SoundSchemas
pub mod CallerLemmas
