use Rattle.std.proofs.Common.{map}
use Rattle.descriptors.specs.declared.tree.Tree.TheVariants as trees
use Rattle.request_lines.specs.RequestLines.{any_text, texts}
use Rattle.line_types.proofs.Choices.{first_each, second_each}
use Rattle.line_types.proofs.variable.LineVariableApiType.fits.Goals as goal

pub returns-in-Text : goal.returns-in-Text
returns-in-Text c = rw c.in-Text.is (first_each any_text texts (trees.Text c.in-Text.text) c.fits.ensures)

pub returns-in-Components : goal.returns-in-Components
returns-in-Components c =
    rw c.in-Components.is (second_each any_text texts (trees.List (map trees.Text c.in-Components.texts)) c.fits-in-Components.ensures)
