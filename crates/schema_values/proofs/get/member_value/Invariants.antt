use Rattle.std.proofs.Common.{◌≡◌, chars, drop}
use Rattle.schema_values.specs.Get.{first_named}
use Rattle.schema_values.proofs.get.member_value.Given as goal

abbrev pub invariant-loop-member : goal.invariant-loop-member
invariant-loop-member l = first_named (chars l.name) l.members ≡ first_named (chars l.name) (drop l.member-index l.members)
