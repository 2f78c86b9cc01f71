-- What proofs of the crates above take from here: lemmas over the words of specs/.

-- the fields of a struct that takes unknown names are listed
pub use Rattle.endpoint_metadata.proofs.Structs.{open_fields}
