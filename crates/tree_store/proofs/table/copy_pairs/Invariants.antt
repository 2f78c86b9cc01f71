use Rattle.std.proofs.Common.{◌≡◌, map}
use Rattle.std.specs.Map.Iter.{deref_pair}
use Rattle.tree_store.specs.Tables.{pair_of}
use Rattle.tree_store.specs.TableView.{pairs_of_entries}
use Rattle.tree_store.proofs.table.copy_pairs.Given as goal

abbrev pub invariant-loop-key : goal.invariant-loop-key
invariant-loop-key l = l.pairs ≡ map pair_of (pairs_of_entries (map deref_pair l.yielded))
