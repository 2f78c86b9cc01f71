use Rattle.std.proofs.Common.{[], ◌∷◌}
use Rattle.descriptors.specs.declared.tree.Tree.TheVariants as trees
use Rattle.request_lines.specs.RequestLines.{any_text, digits_desc}
use Rattle.line_types.proofs.Choices.{first_each, second_each}
use Rattle.line_types.proofs.frame.LineFrameApiType.fits.Goals as goal

pub returns-in-Text : goal.returns-in-Text
returns-in-Text c = rw c.in-Text.is (first_each any_text digits_desc (trees.Text c.in-Text.text) c.fits.ensures)

pub returns-in-Digits : goal.returns-in-Digits
returns-in-Digits c =
    rw c.in-Digits.is
    (second_each any_text digits_desc (trees.Fields (trees.Text c.in-Digits.digits.hex ∷ [])) c.fits-in-Digits.ensures)
