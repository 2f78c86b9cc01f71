use Rattle.std.proofs.Common.{◌+◌, ℕ, List, drop, map, refl, sym, ◌∙◌, ap, arith}
use Rattle.std.proofs.lemmas.Result.{err_from_is_err_and}
use Rattle.request_parts.specs.Wire.{wire_line}
use Rattle.descriptors.specs.declared.desc.Field.{Field}
use Rattle.descriptors.specs.declared.tree.Tree.{Tree, Fields as Parts}
use Rattle.typed_values.specs.Denotes.{Told, by_presence, all_told, as_tree}
use Rattle.flat_maps.proofs.CallerLemmas.{after, all_step, all_err, all_end}
use Rattle.header_texts.specs.HeaderTexts.{header_told}
use Rattle.header_texts.proofs.headers.decode_fields.Goals as goal

pub decode_field-requires-clause-desc : goal.decode_field-requires-clause-desc
decode_field-requires-clause-desc c = c.requires.fields c.field-item.result (c.loop-field.field-index, omega arith, sym c.field-item.is)

pub returns-in_err-tree : goal.returns-in_err-tree
returns-in_err-tree c =
    let fs = c.args.fields.now in
    let f : ℕ → Field → Told = λ i x. by_presence x (header_told c.args.table.now (map wire_line c.args.lines.now) x) in
    let p = err_from_is_err_and c.from_residual.result c.from_residual.ensures.1 in
    rw (p.1, p.2) (all_err f (all_told f 0 fs) fs c.loop-field.field-index c.loop-field.trees c.loop-field.invariant c.field-item.result (omega arith) c.field-item.is (as_tree Parts) (λ k. refl) c.in_err-tree.field-0.0 c.in_err-tree.ensures)

pub loop-field-preserved : goal.loop-field-preserved
loop-field-preserved c =
    let fs = c.args.fields.now in
    let f : ℕ → Field → Told = λ i x. by_presence x (header_told c.args.table.now (map wire_line c.args.lines.now) x) in
    all_step f (all_told f 0 fs) fs c.loop-field.field-index c.loop-field.trees c.loop-field.invariant c.field-item.result (omega arith) c.field-item.is _ c.in_ok-tree.ensures
    ∙ ap (λ (ts : List Tree). after ts (all_told f (c.loop-field.field-index + 1) (drop (c.loop-field.field-index + 1) fs))) (sym c.in_ok-push.ensures.ok)

pub returns : goal.returns
returns c =
    let fs = c.args.fields.now in
    let f : ℕ → Field → Told = λ i x. by_presence x (header_told c.args.table.now (map wire_line c.args.lines.now) x) in
    ap (as_tree Parts) (all_end f (all_told f 0 fs) fs c.loop-field.field-index c.loop-field.trees c.loop-field.invariant (omega arith))
