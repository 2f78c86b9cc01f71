pub mod Agrees
pub mod FieldParameters
pub mod FlatStructs
pub mod ListedFields
pub mod PageParameters
