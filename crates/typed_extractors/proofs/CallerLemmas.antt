-- What proofs of the crates above take from here: lemmas over the words of specs/.

-- arguments that are taken
pub use Rattle.typed_extractors.proofs.Arguments.{shape_taken, first_taken, others_taken}
-- what slots reach, add and are refused for
pub use Rattle.typed_extractors.proofs.Reaching.{holds_left, holds_right, both_reach}
pub use Rattle.typed_extractors.proofs.Refusing.{both_have, both_own, have_left, have_right, handed_on}
