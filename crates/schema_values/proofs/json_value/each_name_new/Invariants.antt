use Rattle.std.proofs.Common.{◌↔◌, length, map}
use Rattle.schema_values.specs.Member.{name_of}
use Rattle.schema_values.specs.Sound.{AreDistinct}
use Rattle.schema_values.proofs.json_value.each_name_new.Given as goal

abbrev pub invariant-loop-first : goal.invariant-loop-first
invariant-loop-first l = AreDistinct (map name_of l.fn.members) ↔ AreDistinct (map name_of l.rest)

abbrev pub decreases-loop-first : goal.decreases-loop-first
decreases-loop-first l = length l.rest
