use Rattle.scalar_texts.proofs.CallerLemmas.{list_passes}
use Rattle.flat_maps.proofs.fault_words.item_words.Goals as goal

pub held-requires-clause-desc : goal.held-requires-clause-desc
held-requires-clause-desc c = rw c.get.ensures (list_passes c.args.table.now c.requires.table c.in-Some.resolved.now c.in-Some.ensures.passes c.in-List.item c.in-List.min c.in-List.max c.in-List.is)
