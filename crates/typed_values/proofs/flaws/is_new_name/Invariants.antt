use Rattle.std.proofs.Common.{take, ◌≢◌}
use Rattle.std.specs.List.{AllByRecursion}
use Rattle.typed_values.proofs.flaws.is_new_name.Given as goal

abbrev pub invariant-loop-item : goal.invariant-loop-item
invariant-loop-item g l = AllByRecursion (λ item. l.name ≢ g.T.HasName.name_of item) (take l.item-index l.items)
