pub mod Firsts
pub mod Parameters
pub mod ParameterCodes
pub mod Steps
pub mod ParameterTypes
pub mod Told
