use Rattle.flat_maps.proofs.Arms.{told_list, no_list}
use Rattle.scalar_texts.proofs.CallerLemmas.{list_passes}
use Rattle.flat_maps.proofs.given.decode_list.Goals as goal

pub decode_items-requires-clause-item : goal.decode_items-requires-clause-item
decode_items-requires-clause-item c = rw c.get.ensures (list_passes c.args.table.now c.requires.table c.args.resolved.now c.requires.desc c.in-List.item c.in-List.min c.in-List.max c.in-List.is)

pub returns-in-List : goal.returns-in-List
returns-in-List c = rw (told_list c.args.table.now c.args.texts.now c.args.resolved.now c.in-List.item c.in-List.min c.in-List.max c.in-List.is, ← c.get.ensures) c.decode_items.ensures

pub returns-in_default : goal.returns-in_default
returns-in_default c = rw (no_list c.args.table.now c.args.texts.now c.args.resolved.now c.in_default.not-List) c.refused.ensures.told
