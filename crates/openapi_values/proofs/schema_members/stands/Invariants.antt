use Rattle.std.proofs.Common.{◌≡◌, drop}
use Rattle.openapi_values.specs.Levels.{has_member}
use Rattle.openapi_values.proofs.schema_members.stands.Given as goal

abbrev pub invariant-loop-member : goal.invariant-loop-member
invariant-loop-member l = has_member l.name (drop l.member-index l.members) ≡ has_member l.name l.fn.members
