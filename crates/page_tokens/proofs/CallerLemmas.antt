-- What proofs of the crates above take from here: lemmas over the words of specs/, and the notions that they are stated in.

-- the start that bytes hold is sound
pub use Rattle.page_tokens.proofs.Held.{start_sound}
