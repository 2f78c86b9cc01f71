mod Among
pub mod Chosen
mod Covered
mod DocumentParts
mod ErrorLoops
mod FreeNames
mod DistinctNames
mod FreeNumbers
mod Growing
mod Joined
mod ListedOperations
mod ListsEndpoints
mod OrderedNames
mod PlacesFound
mod Reaching
mod ReferenceRows
mod Roots
pub mod SameDescs
mod SameSchemas
mod SameTables
mod SchemasFound
mod DecimalTexts
mod NamedErrors
mod SharedErrors
mod ErrorCounts
mod ErrorReferences
mod ErrorsFound
mod MentionedBack
mod ReachedBack
mod SoundParameters
mod SoundOperations
mod SoundDocument
pub mod CallerLemmas
