use Rattle.std.proofs.Common.{◌≡◌, ◌+◌, true, length, List, drop, refl, sym, ◌∙◌, ap, arith}
use Rattle.std.proofs.lemmas.Result.{err_from_is_err_and}
use Rattle.descriptors.specs.declared.tree.Tree.{Tree, List as Items}
use Rattle.typed_values.specs.Bounds.{is_length_within}
use Rattle.typed_values.specs.Denotes.{all_told, as_tree}
use Rattle.flat_maps.specs.Flat.{told_item}
use Rattle.flat_maps.proofs.Arms.{items_within}
use Rattle.flat_maps.proofs.Loops.{after, all_step, all_err, all_end}
use Rattle.flat_maps.proofs.given.decode_items.Goals as goal

pub returns-in_err-tree : goal.returns-in_err-tree
returns-in_err-tree c =
    let texts = c.args.texts.now in
    let f = told_item c.args.table.now c.args.item.now in
    let p = err_from_is_err_and c.from_residual.result c.from_residual.ensures.1 in
    rw (items_within f c.args.min c.args.max texts cc, p.1, p.2)
    (all_err f (all_told f 0 texts) texts c.loop-i.i c.loop-i.trees c.loop-i.invariant c.index-texts-i.result (omega arith) c.index-texts-i.is (as_tree Items) (λ k. refl) c.in_err-tree.field-0.0 c.in_err-tree.ensures)

pub loop-i-preserved : goal.loop-i-preserved
loop-i-preserved c =
    let texts = c.args.texts.now in
    let f = told_item c.args.table.now c.args.item.now in
    all_step f (all_told f 0 texts) texts c.loop-i.i c.loop-i.trees c.loop-i.invariant c.index-texts-i.result (omega arith) c.index-texts-i.is _ c.in_ok-tree.ensures
    ∙ ap (λ (ts : List Tree). after ts (all_told f (c.loop-i.i + 1) (drop (c.loop-i.i + 1) texts))) (sym c.in_ok-push.ensures.ok)

pub returns : goal.returns
returns c =
    let texts = c.args.texts.now in
    let f = told_item c.args.table.now c.args.item.now in
    let within : is_length_within c.args.min c.args.max (length texts) ≡ true = cc in
    items_within f c.args.min c.args.max texts within
    ∙ ap (as_tree Items) (all_end f (all_told f 0 texts) texts c.loop-i.i c.loop-i.trees c.loop-i.invariant (omega arith))
