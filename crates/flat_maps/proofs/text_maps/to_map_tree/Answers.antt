use Rattle.flat_maps.proofs.HeldTexts.{holds_texts}
use Rattle.flat_maps.proofs.ReadBack.{answer_back}
use Rattle.flat_maps.proofs.text_maps.to_map_tree.Goals as goal

pub returns-clause-texts : goal.returns-clause-texts
returns-clause-texts c =
    holds_texts c.args.table.now c.args.desc.now c.args.tree.now c.requires.table c.requires.desc c.written_map.result c.written_map.ensures

pub returns-clause-read_back : goal.returns-clause-read_back
returns-clause-read_back c =
    answer_back c.args.table.now c.args.desc.now c.args.tree.now c.requires.table c.requires.desc c.written_map.result c.written_map.ensures
