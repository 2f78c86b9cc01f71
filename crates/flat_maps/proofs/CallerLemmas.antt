-- What proofs of the crates above take from here: lemmas over the words of specs/, and the notions that they are stated in.

-- what a text denotes, descriptor by descriptor, with no steps in it
pub use Rattle.scalar_texts.proofs.CallerLemmas.{text_row}
-- what references lead to, with no steps in it
pub use Rattle.flat_maps.proofs.ResolveSteps.{resolved_row, at_name, here}
-- a measure that falls behind options and references
pub use Rattle.scalar_texts.proofs.CallerLemmas.{steps, fewer_behind}
-- what flat names denote, field by field; and that it fits
pub use Rattle.flat_maps.proofs.OkFields.{ok_given, ok_fields, ok_doubled}
pub use Rattle.flat_maps.proofs.FlatFits.{flat_fits}
pub use Rattle.flat_maps.proofs.PairFits.{pairs_fit}
-- what a loop over fields has decoded, before what is left
pub use Rattle.flat_maps.proofs.Loops.{after, all_step, all_err, all_end}
