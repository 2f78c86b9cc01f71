use Rattle.std.proofs.Common.{◌*◌, ◌+◌, Option, drop}
use denote.Param.Weighed.{most}
use Rattle.std.specs.HashMap.{get_by_text}
use Rattle.schema_values.specs.declared.schema.Schema.{size-Schema}
use Rattle.schema_util.specs.Code.{asked_of}
use Rattle.schema_util.specs.Met.{names_met}
use Rattle.schema_util.specs.Scalars.{Fault, FirstFaultAmong}
use Rattle.schema_util.proofs.Sizes.{ahead}
use Rattle.schema_util.proofs.scalar.+tested.Given as goal

abbrev pub decreases-tested : goal.decreases-tested
decreases-tested l = ahead l.definitions.now.entries (names_met l.met) 2 (2 * size-Schema l.schema.now)

abbrev pub decreases-all_tested : goal.decreases-all_tested
decreases-all_tested l = ahead l.definitions.now.entries (names_met l.met) 2 (2 * most size-Schema l.members.now + 1)

abbrev pub invariant-all_tested-loop-member : goal.invariant-all_tested-loop-member
invariant-all_tested-loop-member l =
    (fault : Option Fault) → FirstFaultAmong (asked_of l.wanted) (get_by_text l.definitions) (names_met l.met) (drop l.member-index l.members) fault
    → FirstFaultAmong (asked_of l.wanted) (get_by_text l.definitions) (names_met l.met) l.members fault
