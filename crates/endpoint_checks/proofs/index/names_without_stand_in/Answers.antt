use Rattle.std.proofs.Common.{◌≡◌, ◌+◌, ◌<◌, List, ap, arith, get_or, inl, inr, length, map, subst, take, ◌∙◌}
use Rattle.std.specs.Prelude.{All}
use Rattle.std.proofs.lemmas.List.{take_all}
use Rattle.std.proofs.lemmas.List.Elements.{All-more, All-weaker}
use Rattle.descriptors.specs.declared.table.Definition.{Definition}
use Rattle.api_declarations.specs.Values.{DeclarationValue}
use Rattle.endpoint_checks.specs.EndpointIndexes.{IsNamedOrStoodFor}
use Rattle.endpoint_checks.proofs.index.names_without_stand_in.Goals as goal

pub returns-then-not-endpoint : goal.returns-then-not-endpoint
returns-then-not-endpoint g c = λ visible. absurd (cc (c.if-not-endpoint.true, ap (λ (d : DeclarationValue). d.visible) c.endpoint.view_is, visible))

pub loop-definition-preserved : goal.loop-definition-preserved
loop-definition-preserved g c =
    let e = c.args.endpoint.now in
    let i = c.loop-definition.definition-index in
    let d = c.definition-item.result in
    let Has = IsNamedOrStoodFor (map g.E.Declared.declared c.args.before.now) c.args.index.now (length c.args.before.now) e in
    let old = c.loop-definition.names in
    let new = c.push_name.new.names in
    let same = c.definitions-definition-items.ensures.items ∙ ap (λ (d : DeclarationValue). d.shape.table) c.endpoint.view_is in
    let is = subst (λ (ds : List Definition). d ≡ get_or ds i d) same c.definition-item.is in
    All-more (Has new) e.shape.table i d (subst (λ (ds : List Definition). i < length ds) same c.loop-definition-test.true)
    (All-weaker (Has old) (Has new) (λ x has. elim has [ inl named ↦ inl (c.in_ok-push_name.ensures.kept x.name named) | inr s ↦ inr s ])
    (take i e.shape.table) c.loop-definition.invariant)
    (subst (Has new) is c.in_ok-push_name.ensures.named)

pub returns : goal.returns
returns g c =
    let e = c.args.endpoint.now in
    let i = c.loop-definition.definition-index in
    let Has = IsNamedOrStoodFor (map g.E.Declared.declared c.args.before.now) c.args.index.now (length c.args.before.now) e c.loop-definition.names in
    let same = c.definitions-definition-items.ensures.items ∙ ap (λ (d : DeclarationValue). d.shape.table) c.endpoint.view_is in
    let end = subst (λ (ds : List Definition). length ds < i + 1) same (omega (arith, c.loop-definition-test.false)) in
    λ visible. subst (All Has) (take_all i e.shape.table (omega (arith, end))) c.loop-definition.invariant
