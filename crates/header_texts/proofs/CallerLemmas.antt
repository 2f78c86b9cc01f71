-- What proofs of the crates above take from here.

-- a tree that header lines denote is a value of the descriptor
pub use Rattle.header_texts.proofs.HeaderFits.{headers_fit}
