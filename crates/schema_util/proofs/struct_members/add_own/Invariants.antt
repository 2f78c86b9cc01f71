use Rattle.std.proofs.Common.{◌≡◌, ◌++◌, map, take}
use Rattle.schema_values.specs.declared.schema.ObjectParts.{out-ObjectParts}
use Rattle.schema_util.specs.StructMembers.{member_of}
use Rattle.schema_util.proofs.struct_members.add_own.Given as goal

abbrev pub invariant-loop-property : goal.invariant-loop-property
invariant-loop-property l =
    l.members ≡ l.initial.members ++ map (member_of l.required (out-ObjectParts l.parts).required) (map (λ p. p.now) (take l.property-index l.property-items))
