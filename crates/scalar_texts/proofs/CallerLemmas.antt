-- What proofs of the crates above take from here: lemmas over the words of specs/, and the notions that they are stated in.

-- what a text denotes, descriptor by descriptor, with no steps in it; and that it fits
pub use Rattle.scalar_texts.proofs.TextSteps.{text_row}
pub use Rattle.scalar_texts.proofs.TextFits.{named_part, option_part, rests, text_gives}
-- a measure that falls behind options and references
pub use Rattle.scalar_texts.proofs.Steps.{steps, fewer_behind, row}
-- where the checks pass of a descriptor, they pass of what it leads to
pub use Rattle.scalar_texts.proofs.Passing.{definition_passes, fields_pass, list_passes, option_passes}
-- a tree that a text denotes under a scalar descriptor is of its form, within its bounds
pub use Rattle.scalar_texts.proofs.ScalarFits.{Gives, just_gives, shown}
