-- What proofs of the crates above take from here: lemmas over the words of specs/, and the notions that they are stated in.

-- what a step along a reference says
pub use Rattle.schema_util.proofs.Steps.{followed}
