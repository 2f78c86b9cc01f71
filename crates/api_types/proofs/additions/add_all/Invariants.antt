use Rattle.std.proofs.Common.{◌≡◌, take}
use Rattle.api_types.specs.Additions.{with_all}
use Rattle.api_types.specs.Types.{HoldsAll}
use Rattle.api_types.proofs.additions.add_all.Given as goal

abbrev pub invariant-loop-definition : goal.invariant-loop-definition
invariant-loop-definition l = record {
  is : l.all ≡ with_all l.fn.table (take l.definition-index l.definitions);
  held : HoldsAll l.all (take l.definition-index l.definitions);
}
