use Rattle.std.proofs.Common.{◌≡◌, length}
use Rattle.schema_values.specs.SoundTest.{are_distinct}
use Rattle.path_templates.specs.Templates.{names_of}
use Rattle.path_templates.proofs.segments.are_distinct.Given as goal

-- no name so far is repeated
abbrev pub invariant-names : goal.invariant-names
invariant-names l = are_distinct (names_of l.segments) ≡ are_distinct (names_of l.left)

abbrev pub decreases-names : goal.decreases-names
decreases-names l = length l.left
