pub mod BodiesTold
pub mod Found
pub mod MethodLemmas
pub mod OperationTold
pub mod SoundOperations
pub mod WordLemmas
