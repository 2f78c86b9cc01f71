use Rattle.std.proofs.Common.{◌+◌, ℕ, List, Option, drop, option_map, refl, sym, ◌∙◌, ap, subst, arith}
use Rattle.std.proofs.lemmas.Result.{err_from_is_err_and}
use Rattle.std.specs.declared.result.Result.TheVariants.{Err}
use Rattle.schema_values.specs.declared.variables.VariableValue.{VariableValue}
use Rattle.descriptors.specs.declared.desc.Field.{Field}
use Rattle.descriptors.specs.declared.tree.Tree.{Tree, Fields as Parts}
use Rattle.typed_values.specs.Answer.{Tells}
use Rattle.typed_values.specs.Denotes.{Told, by_presence, all_told, as_tree}
use Rattle.flat_maps.specs.Flat.{given_told, looked_up}
use Rattle.flat_maps.proofs.Loops.{after, all_step, all_err, all_end}
use Rattle.flat_maps.proofs.fields.decode_fields.Goals as goal

pub decode_field-requires-clause-desc : goal.decode_field-requires-clause-desc
decode_field-requires-clause-desc g c = c.requires.fields c.field-item.result (c.loop-field.field-index, omega arith, sym c.field-item.is)

pub returns-in_err-tree : goal.returns-in_err-tree
returns-in_err-tree g c =
    let fs = c.args.fields.now in
    let field = c.field-item.result in
    let f : ℕ → Field → Told = λ i x. by_presence x (looked_up c.args.table.now (g.L.LookUp.names c.args.names.now) x) in
    let told : Option VariableValue → Told = λ o. by_presence field (option_map (given_told c.args.table.now field.desc) o) in
    let p = err_from_is_err_and c.from_residual-in_err-tree.result c.from_residual-in_err-tree.ensures.1 in
    rw (p.1, p.2) (all_err f (all_told f 0 fs) fs c.loop-field.field-index c.loop-field.trees c.loop-field.invariant field (omega arith) c.field-item.is (as_tree Parts) (λ k. refl) c.in_err-tree.field-0.0
    (subst (λ (o : Option VariableValue). Tells {T = Tree} (Err c.in_err-tree.field-0.0) (told o)) c.in_ok-given.ensures c.in_err-tree.ensures))

pub loop-field-preserved : goal.loop-field-preserved
loop-field-preserved g c =
    let fs = c.args.fields.now in
    let field = c.field-item.result in
    let f : ℕ → Field → Told = λ i x. by_presence x (looked_up c.args.table.now (g.L.LookUp.names c.args.names.now) x) in
    let told : Option VariableValue → Told = λ o. by_presence field (option_map (given_told c.args.table.now field.desc) o) in
    all_step f (all_told f 0 fs) fs c.loop-field.field-index c.loop-field.trees c.loop-field.invariant field (omega arith) c.field-item.is _ (ap told (sym c.in_ok-given.ensures) ∙ c.in_ok-tree.ensures)
    ∙ ap (λ (ts : List Tree). after ts (all_told f (c.loop-field.field-index + 1) (drop (c.loop-field.field-index + 1) fs))) (sym c.in_ok-push.ensures.ok)

pub returns : goal.returns
returns g c =
    let fs = c.args.fields.now in
    let f : ℕ → Field → Told = λ i x. by_presence x (looked_up c.args.table.now (g.L.LookUp.names c.args.names.now) x) in
    ap (as_tree Parts) (all_end f (all_told f 0 fs) fs c.loop-field.field-index c.loop-field.trees c.loop-field.invariant (omega arith))
