use Rattle.std.proofs.Common.{◌≡◌, ◌*◌, ◌+◌, ◌++◌, List, Result, drop}
use denote.Param.Weighed.{most}
use Rattle.std.specs.HashMap.{get_by_text}
use Rattle.schema_values.specs.declared.schema.Schema.{size-Schema}
use Rattle.schema_util.specs.Met.{names_met}
use Rattle.schema_util.specs.StructMembers.{behind, Misfit, GiveAll}
use Rattle.schema_util.specs.declared.struct_members.StructMember.{StructMember}
use Rattle.schema_util.proofs.Sizes.{ahead}
use Rattle.schema_util.proofs.struct_members.+add.Given as goal

abbrev pub decreases-add_struct : goal.decreases-add_struct
decreases-add_struct l = ahead l.definitions.now.entries (names_met l.met) 2 (2 * size-Schema l.schema.now)

abbrev pub decreases-add_each : goal.decreases-add_each
decreases-add_each l = ahead l.definitions.now.entries (names_met l.met) 2 (2 * most size-Schema l.schemas.now + 1)

abbrev pub invariant-add_each-loop-schema : goal.invariant-add_each-loop-schema
invariant-add_each-loop-schema l =
    (done : List StructMember) × (l.members ≡ l.initial.members ++ done) × ((end : Result (List StructMember) Misfit)
    → GiveAll (get_by_text l.definitions) (names_met l.met) l.required (drop l.schema-index l.schemas) end
    → GiveAll (get_by_text l.definitions) (names_met l.met) l.required l.schemas (behind done end))
