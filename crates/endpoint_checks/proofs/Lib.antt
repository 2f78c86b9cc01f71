pub mod Configured
pub mod Covering
pub mod StandIns
pub mod Indexed
pub mod DefinitionClashes
pub mod FoundByIndex
