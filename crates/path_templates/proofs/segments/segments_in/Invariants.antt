use Rattle.std.proofs.Common.{◌≡◌, ◌++◌, ◌+◌, ℕ, List, Option, Some, None, length}
use Rattle.std.specs.Option.{option_copied}
use Rattle.std.specs.Prelude.{option_map}
use Rattle.path_templates.specs.Segments.{pieces, pieces_left, segments_in}
use Rattle.path_templates.proofs.segments.segments_in.Given as goal

-- the segments so far, before those of what is left
abbrev pub invariant-pieces : goal.invariant-pieces
invariant-pieces l =
    segments_in (pieces l.text) ≡ option_map (λ ss. l.segments ++ ss) (segments_in (pieces_left (option_copied l.left)))

-- how much is left
abbrev pub left_length : Option (List ℕ) → ℕ
left_length None = 0
left_length (Some text) = length text + 1

abbrev pub decreases-pieces : goal.decreases-pieces
decreases-pieces l = left_length (option_copied l.left)
