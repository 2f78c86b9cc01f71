use Rattle.std.proofs.Common.{◌≡◌, List, ◌∷◌, sym, ◌∙◌, ap, subst}
use Rattle.std.specs.Option.{option_copied}
use Rattle.typed_values.specs.declared.search.Met.{out-Met}
use Rattle.descriptors.specs.declared.table.Definition.{Definition}
use Rattle.typed_values.specs.Search.{all_met, IsMet}
use Rattle.typed_values.proofs.Searching.{met_split, met_first, met_cases, met_later}
use Rattle.typed_values.proofs.Within.{untrue}
use Rattle.typed_values.proofs.search.+is_met.Goals as goal

pub returns-then-equals : goal.returns-then-equals
returns-then-equals t c =
    let m = c.in-Some.met.now in
    let list = ap (λ o. all_met (option_copied o)) c.in-Some.is ∙ met_split m in
    let here = met_first (out-Met m).definition.now (all_met (option_copied (out-Met m).before)) in
    (λ h. subst (λ (l : List Definition). IsMet l c.args.name.now) (sym list) (subst (IsMet ((out-Met m).definition.now ∷ all_met (option_copied (out-Met m).before))) (c.equals.ensures.0 c.if-equals.true) here), λ h. c.if-equals.true)

pub returns-else-equals : goal.returns-else-equals
returns-else-equals t c =
    let m = c.in-Some.met.now in
    let e = (out-Met m).definition.now in
    let earlier = all_met (option_copied (out-Met m).before) in
    let list = ap (λ o. all_met (option_copied o)) c.in-Some.is ∙ met_split m in
    let other : e.name ≡ c.args.name.now → ⊥ = untrue c.equals.ensures c.if-equals.false in (
      λ h. subst (λ (l : List Definition). IsMet l c.args.name.now) (sym list) (met_later e earlier c.args.name.now (c.is_met.ensures.0 h)),
      λ h. c.is_met.ensures.1 (met_cases e earlier c.args.name.now other (subst (λ (l : List Definition). IsMet l c.args.name.now) list h)),
    )
