use Rattle.std.proofs.Common.{◌↔◌, length, map}
use Rattle.schema_values.specs.Sound.{AreDistinct}
use Rattle.typed_values.proofs.flaws.are_distinct.Given as goal

abbrev pub invariant-loop-first : goal.invariant-loop-first
invariant-loop-first g l = AreDistinct (map g.T.HasName.name_of l.fn.items) ↔ AreDistinct (map g.T.HasName.name_of l.rest)

abbrev pub decreases-loop-first : goal.decreases-loop-first
decreases-loop-first g l = length l.rest
