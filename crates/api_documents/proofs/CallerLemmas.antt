-- What proofs of the crates above take from here: lemmas over the words of specs/.

-- of a list: what a filter keeps, and two things one behind the other
pub use Rattle.api_documents.proofs.Chosen.{chosen, kept, first_pair, later_pairs}
-- codes are the same by a test where they are equal
pub use Rattle.api_documents.proofs.SameDescs.{same_code-refl, same_code-is}
