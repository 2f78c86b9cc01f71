use Rattle.std.proofs.Common.{map}
use Rattle.typed_values.specs.Fits.{key_of}
use Rattle.typed_values.proofs.CallerLemmas.{keys_sorted}
use Rattle.api_types.proofs.Entries.{next_pairs}
use Rattle.api_types.proofs.map.map_of.Goals as goal

pub loop-pair-preserved : goal.loop-pair-preserved
loop-pair-preserved g c =
    let l = c.loop-pair in
    rw (c.in_ok-insert.ensures.entries, c.in_ok-copy.ensures)
    (next_pairs g.T.ApiType.tree_of l.values.entries c.args.pairs.now l.pair-index c.pair-item.result c.in_ok-value.value
    (keys_sorted (map key_of c.args.pairs.now) c.requires.ascending) c.loop-pair-test.true c.pair-item.is l.invariant c.in_ok-value.ensures)
