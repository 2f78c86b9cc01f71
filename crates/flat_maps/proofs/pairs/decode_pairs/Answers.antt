use Rattle.std.proofs.Common.{List, subst}
use Rattle.request_words.specs.declared.pairs.NamedText.{NamedText}
use Rattle.flat_maps.specs.declared.repeats.Repeats.{Repeats}
use Rattle.flat_maps.specs.Pairs.{PairsDenote}
use Rattle.flat_maps.proofs.PairFits.{pairs_flat, pairs_once, pairs_fit}
use Rattle.flat_maps.proofs.pairs.decode_pairs.Goals as goal

pub returns-in-Ok-clause-last : goal.returns-in-Ok-clause-last
returns-in-Ok-clause-last c =
    pairs_flat c.args.table.now c.args.desc.now c.args.repeats c.args.pairs.now c.in-Ok.tree (subst (λ (ps : List NamedText). PairsDenote c.args.table.now c.args.desc.now c.args.repeats ps c.in-Ok.tree) c.as_slice.ensures c.in-Ok.ensures)

pub returns-in-Ok-clause-fits : goal.returns-in-Ok-clause-fits
returns-in-Ok-clause-fits c =
    pairs_fit c.args.table.now c.args.desc.now c.args.repeats c.args.pairs.now c.in-Ok.tree c.requires.table c.requires.desc (
    subst (λ (ps : List NamedText). PairsDenote c.args.table.now c.args.desc.now c.args.repeats ps c.in-Ok.tree) c.as_slice.ensures c.in-Ok.ensures)

pub returns-in-Ok-clause-once : goal.returns-in-Ok-clause-once
returns-in-Ok-clause-once c refuse =
    let denotes = subst (λ (ps : List NamedText). PairsDenote c.args.table.now c.args.desc.now c.args.repeats ps c.in-Ok.tree) c.as_slice.ensures c.in-Ok.ensures in
    pairs_once c.args.table.now c.args.desc.now c.args.pairs.now c.in-Ok.tree (subst (λ (r : Repeats). PairsDenote c.args.table.now c.args.desc.now r c.args.pairs.now c.in-Ok.tree) refuse denotes)
