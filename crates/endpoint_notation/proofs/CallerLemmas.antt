-- What proofs of the crates above take from here: lemmas over the words of specs/, and the notions that they are stated in.

-- a response that has a code, or content of any kind without named headers, is that of a handler
pub use Rattle.endpoint_notation.proofs.CodelessShapes.{codeless}
