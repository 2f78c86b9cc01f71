use Rattle.std.proofs.Common.{◌≡◌, drop}
use Rattle.schema_values.specs.Get.{first_named}
use Rattle.openapi_values.proofs.schema_members.find_member.Given as goal

abbrev pub invariant-loop-member : goal.invariant-loop-member
invariant-loop-member l = first_named l.name (drop l.member-index l.members) ≡ first_named l.name l.fn.members
