use Rattle.std.proofs.Common.{◌≡◌, map, drop, true}
use Rattle.typed_values.specs.Denotes.{denied_name}
use Rattle.typed_values.proofs.members.Members.denied_name.Given as goal

abbrev pub invariant-loop-member : goal.invariant-loop-member
invariant-loop-member l = denied_name true l.fields l.self.items.now ≡ denied_name true l.fields (drop l.member-index (map (λ member. member.now) l.self.sorted.items))
