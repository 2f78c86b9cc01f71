-- What proofs of the crates above take from here: lemmas over the words of specs/.

-- the tests for ranges and for endpoints decide
pub use Rattle.api_declarations.proofs.Held.{held}
pub use Rattle.api_declarations.proofs.Served.{served}
