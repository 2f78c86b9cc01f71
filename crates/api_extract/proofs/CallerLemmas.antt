-- What proofs of the crates above take from here: lemmas over the words of specs/, and the notions that they are stated in.

-- the value that bytes read as, as a function and as a relation
pub use Rattle.api_extract.proofs.ReadValues.{read_value, value_reads}
-- no frame came
pub use Rattle.api_extract.proofs.Contents.{none_came}
