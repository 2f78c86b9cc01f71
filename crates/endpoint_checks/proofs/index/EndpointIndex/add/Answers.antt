use Rattle.std.proofs.Common.{[], ◌∷◌, ◌++◌, List, ap, length, map, refl, subst, sym, ◌∙◌}
use Rattle.std.proofs.lemmas.List.{length-map, map-append}
use Rattle.std.proofs.lemmas.List.Elements.{All-weaker}
use Rattle.std.proofs.lemmas.Result.{err_from_is_err_and}
use Rattle.path_templates.proofs.CallerLemmas.{lasts_back}
use Rattle.path_templates.specs.Places.{places_at}
use Rattle.api_declarations.specs.Keys.{shape_keys}
use Rattle.api_declarations.specs.Values.{DeclarationValue}
use Rattle.endpoint_checks.specs.EndpointIndexes.{HasPlace, IsIndexed, IsNamedOrStoodFor}
use Rattle.endpoint_checks.specs.declared.index.EndpointIndex.{EndpointIndex}
use Rattle.endpoint_checks.proofs.Covering.{keeps_all, stands_all, stands_at}
use Rattle.endpoint_checks.proofs.Indexed.{indexed_more, indexed_still}
use Rattle.endpoint_checks.proofs.StandIns.{place_or_stand_in}
use Rattle.endpoint_checks.proofs.index.EndpointIndex.add.Goals as goal

pub returns-in_err-names-clause-err : goal.returns-in_err-names-clause-err
returns-in_err-names-clause-err g c =
    let p = err_from_is_err_and c.from_residual.result c.from_residual.ensures.1 in
    rw p.1 (record { templates = λ key. refl; shapes = λ key. refl; definitions = λ key. refl })

pub returns-in_err-names-clause-kept : goal.returns-in_err-names-clause-kept
returns-in_err-names-clause-kept g c =
    let p = err_from_is_err_and c.from_residual.result c.from_residual.ensures.1 in
    rw p.1 c.requires

pub returns-in_err-add_all-clause-err : goal.returns-in_err-add_all-clause-err
returns-in_err-add_all-clause-err g c =
    let p = err_from_is_err_and c.from_residual-in_err-add_all.result c.from_residual-in_err-add_all.ensures.1 in
    rw p.1 (record { templates = λ key. refl; shapes = λ key. refl; definitions = c.in_err-add_all.ensures.err })

pub returns-in_err-add_all-clause-kept : goal.returns-in_err-add_all-clause-kept
returns-in_err-add_all-clause-kept g c =
    let p = err_from_is_err_and c.from_residual-in_err-add_all.result c.from_residual-in_err-add_all.ensures.1 in
    rw p.1 (indexed_still (map g.E.Declared.declared c.args.before.now) c.args.self.now _ c.requires
    (record { templates = λ key. refl; shapes = λ key. refl; definitions = c.in_err-add_all.ensures.err }))

pub returns-in-Ok-clause-added : goal.returns-in-Ok-clause-added
returns-in-Ok-clause-added g c =
    let declared = g.E.Declared.declared in
    let before = c.args.before.now in
    let place = length before in
    let e = c.declaration-endpoint.result in
    let old = c.args.self.now in
    let new : EndpointIndex = record { templates = c.add_path.new.templates; shapes = c.add_path.new.shapes; definitions = c.add_all.new.self } in
    let names = c.as_slice-keys.result.now in
    let at_names = c.in_ok-add_all.ensures.ok in
    let at_shape = c.in-Ok.ensures.shapes in
    let kept = keeps_all old.definitions new.definitions names place at_names in
    let has = rw (← c.as_slice-keys.ensures) at c.in_ok-names.ensures in
    let all = ap (λ (d : DeclarationValue). map declared before ++ d ∷ []) c.declaration-endpoint.ensures ∙ sym (map-append declared before (c.args.endpoint.now ∷ [])) in
    subst (λ (es : List DeclarationValue). IsIndexed es new) all
    (indexed_more (map declared before) old new c.requires (keeps_all old.shapes new.shapes (shape_keys e) place at_shape) kept e place (sym (length-map before declared))
    c.in-Ok.ensures.templates (stands_all old.shapes new.shapes (shape_keys e) place at_shape)
    (λ visible. All-weaker (IsNamedOrStoodFor (map declared before) old.definitions place e names) (HasPlace (map declared before) new.definitions place e)
    (place_or_stand_in (map declared before) old.definitions new.definitions kept place e names (stands_at old.definitions new.definitions names place at_names))
    e.shape.table (has visible)))

pub returns-clause-err : goal.returns-clause-err
returns-clause-err g c = record {
  templates = c.in-Err.ensures.err.1;
  shapes = c.in-Err.ensures.err.0;
  definitions = λ q. c.take_back.ensures q
      ∙ lasts_back (places_at c.args.self.now.definitions) (length c.args.before.now) _ _ c.in_ok-add_all.ensures.ok q;
}

pub returns-clause-kept : goal.returns-clause-kept
unfolding returns-clause-err
returns-clause-kept g c =
    indexed_still (map g.E.Declared.declared c.args.before.now) c.args.self.now _ c.requires (returns-clause-err g c)
