use Rattle.std.proofs.Common.{◌≡◌, ◌+◌, ◌<◌, List, ap, arith, get_or, length, subst, ◌∙◌}
use Rattle.std.proofs.lemmas.List.{take_all}
use Rattle.descriptors.specs.declared.table.Definition.{Definition}
use Rattle.api_declarations.specs.Values.{DeclarationValue}
use Rattle.endpoint_parameters.specs.Firsts.{IsFirstPlace}
use Rattle.endpoint_parameters.proofs.CallerLemmas.{first_lent}
use Rattle.endpoint_checks.specs.Clashes.{DefinesOneOtherwise, IsDefinedOtherwise}
use Rattle.endpoint_checks.proofs.FoundByIndex.{IsFirstBy, first_by_more, none_defining}
use Rattle.endpoint_checks.proofs.definition_clashes.first_defining.Goals as goal

pub loop-definition-preserved : goal.loop-definition-preserved
loop-definition-preserved g c =
    let declared = g.E.Declared.declared in
    let e = c.args.endpoint.now in
    let before = c.args.before.now in
    let i = c.loop-definition.definition-index in
    let first = c.loop-definition.first in
    let next = c.first_place-first.result in
    let d = c.definition-item.result in
    let same = c.definitions-definition-items.ensures.items ∙ ap (λ (e : DeclarationValue). e.shape.table) c.endpoint.view_is in
    first_by_more declared before c.args.index.now c.requires e i first next d (subst (λ (ds : List Definition). i < length ds) same c.loop-definition-test.true)
    (subst (λ (ds : List Definition). d ≡ get_or ds i d) same c.definition-item.is) c.loop-definition.invariant
    (subst (λ places. IsFirstPlace (λ x. IsDefinedOtherwise e d (declared x)) before places first next) c.at-places.ensures c.first_place-first.ensures)

pub returns : goal.returns
returns g c =
    let declared = g.E.Declared.declared in
    let e = c.args.endpoint.now in
    let before = c.args.before.now in
    let first = c.loop-definition.first in
    let same = c.definitions-definition-items.ensures.items ∙ ap (λ (e : DeclarationValue). e.shape.table) c.endpoint.view_is in
    let end = subst (λ (ds : List Definition). length ds < c.loop-definition.definition-index + 1) same (omega (arith, c.loop-definition-test.false)) in
    let is_first = subst (λ (ds : List Definition). IsFirstBy declared before e ds first) (take_all c.loop-definition.definition-index e.shape.table (omega (arith, end))) c.loop-definition.invariant in
    first_lent (λ x. DefinesOneOtherwise e (declared x)) before first c.loop-definition.invariant.is_such (none_defining declared before e first is_first) (λ x. x.now) c.get.result c.get.ensures.lookup
