pub mod Exchanges
pub mod BodyReads
pub mod Answering
pub mod Denoting
