use Rattle.std.proofs.Common.{◌≡◌, ◌≤◌, ◌-◌, ◌++◌, length, drop, chars}
use Rattle.std.specs.Io.{StartsWith}
use Rattle.std.specs.List.{flat_map}
use Rattle.std.specs.Str.{IsCharBoundary}
use Rattle.schema_values.specs.Print.{escape}
use Rattle.schema_values.proofs.quoting.write_characters.Given as goal

abbrev pub invariant-loop-out : goal.invariant-loop-out
invariant-loop-out l =
    (l.from ≤ length l.text) × IsCharBoundary l.text l.from
    × (l.out ++ flat_map escape (chars (drop l.from l.text)) ≡ l.initial.out ++ flat_map escape (chars l.text))
    × StartsWith l.out l.initial.out

abbrev pub decreases-loop-out : goal.decreases-loop-out
decreases-loop-out l = length l.text - l.from
