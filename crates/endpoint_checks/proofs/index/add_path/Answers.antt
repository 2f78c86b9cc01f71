use Rattle.std.proofs.Common.{refl, ◌∙◌}
use Rattle.std.proofs.lemmas.Result.{err_from_is_err_and}
use Rattle.path_templates.proofs.CallerLemmas.{lasts_back}
use Rattle.path_templates.specs.Places.{places_at}
use Rattle.endpoint_checks.proofs.index.add_path.Goals as goal

pub returns-in_err-shape-clause-err : goal.returns-in_err-shape-clause-err
returns-in_err-shape-clause-err c =
    let p = err_from_is_err_and c.from_residual.result c.from_residual.ensures.1 in
    rw p.1 ((λ key. refl), (λ key. refl))

pub returns-in_err-add_all-clause-err : goal.returns-in_err-add_all-clause-err
returns-in_err-add_all-clause-err c =
    let p = err_from_is_err_and c.from_residual-in_err-add_all.result c.from_residual-in_err-add_all.ensures.1 in
    rw p.1 (c.in_err-add_all.ensures.err, (λ key. refl))

pub returns-in-Ok-clause-shapes : goal.returns-in-Ok-clause-shapes
returns-in-Ok-clause-shapes c = rw (c.as_slice-keys.ensures, c.in_ok-shape.ensures) at c.in_ok-add_all.ensures.ok

pub returns-in-Ok-clause-templates : goal.returns-in-Ok-clause-templates
returns-in-Ok-clause-templates c = c.in-Ok.ensures.ok

pub returns-clause-err : goal.returns-clause-err
returns-clause-err c =
    (λ q. c.take_back.ensures q ∙ lasts_back (places_at c.args.shapes.now) c.args.place _ _ c.in_ok-add_all.ensures.ok q, c.in-Err.ensures.err)
