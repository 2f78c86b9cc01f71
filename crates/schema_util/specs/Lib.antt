pub mod Forms
pub mod Met
pub mod References
pub mod Scalars
pub mod Descriptions
pub mod StructMembers
pub mod Code
