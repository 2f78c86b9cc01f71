use Rattle.std.proofs.Common.{◌≡◌, drop}
use Rattle.typed_values.specs.Denotes.{named_from}
use Rattle.typed_values.proofs.order.find_named.Given as goal

abbrev pub invariant-loop-place : goal.invariant-loop-place
invariant-loop-place g l = named_from g.T.HasName.name_of l.place (drop l.place l.items) l.name ≡ named_from g.T.HasName.name_of 0 l.items l.name
