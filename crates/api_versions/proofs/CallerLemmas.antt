-- What proofs of the crates above take from here: lemmas over the words of specs/, and the notions that they are stated in.

-- the order of versions is reflexive, and tells all versions apart
pub use Rattle.api_versions.proofs.Orders.{ties_itself, version_anti}
