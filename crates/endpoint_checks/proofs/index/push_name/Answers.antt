use Rattle.std.proofs.Common.{[], ◌∷◌, List, ℕ, inl, inr, subst, sym}
use Rattle.std.specs.Prelude.{Contains}
use Rattle.std.proofs.lemmas.List.Elements.{Contains-append_left, Contains-push}
use Rattle.std.proofs.lemmas.Result.{on_ok_weaker}
use Rattle.endpoint_parameters.specs.Firsts.{IsSuchAtOneOf}
use Rattle.endpoint_checks.specs.EndpointIndexes.{StandsFor}
use Rattle.endpoint_checks.proofs.StandIns.{stood_for}
use Rattle.endpoint_checks.proofs.index.push_name.Goals as goal

pub returns-then-is_any-clause-named : goal.returns-then-is_any-clause-named
returns-then-is_any-clause-named g c =
    let declared = g.E.Declared.declared in
    let e = c.args.endpoint.now in
    let d = c.args.definition.now in
    inr (stood_for declared c.args.before.now c.args.index.now e d
    (subst (IsSuchAtOneOf (λ x. StandsFor e d (declared x)) c.args.before.now) c.at.ensures (c.is_any.ensures.0 c.if-is_any.true)))

pub returns-clause-kept : goal.returns-clause-kept
returns-clause-kept g c =
    on_ok_weaker c.push.result
    (λ more name at. subst (λ (names : List (List ℕ)). Contains names name) (sym more)
    (Contains-append_left c.args.names.now (c.in_ok-name.name ∷ []) name at))
    c.push.ensures.ok

pub returns-clause-named : goal.returns-clause-named
returns-clause-named g c =
    on_ok_weaker c.push.result
    (λ more. inl (subst (λ (name : List ℕ). Contains c.push.new.self name) c.in_ok-name.ensures
    (subst (λ (names : List (List ℕ)). Contains names c.in_ok-name.name) (sym more) (Contains-push c.args.names.now c.in_ok-name.name))))
    c.push.ensures.ok
