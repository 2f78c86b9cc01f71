use Rattle.std.proofs.Common.{◌≡◌, ◌<◌, ◌++◌, ◌∷◌, ◌∙◌, [], length, get_or, refl, sym, ap, append_assoc, subst, true≢false}
use Rattle.serde_json.specs.View.{view, members_view}
use Rattle.serde_json.proofs.Views.{Entry}
use Rattle.schema_values.specs.Reading.{json_of, members_of}
use Rattle.schema_values.proofs.Options.{some_of}
use Rattle.schema_values.proofs.ReadingLemmas.{items-more, items-none, members-more, members-none, member_from}
use Rattle.schema_values.proofs.value.+holds_float.Goals as goal

pub some_item_holds_float-returns-then-holds_float : goal.some_item_holds_float-returns-then-holds_float
some_item_holds_float-returns-then-holds_float t c =
    let values = c.args.values.now.items in
    let index = c.loop-value.value-index in
    let item = c.value-item.result in
    let same = c.deref-value-items.ensures.value in
    let less = subst (λ vs. index < length vs) same c.loop-value-test.true in
    let is = subst (λ vs. item ≡ get_or vs index item) same c.value-item.is in
    (λ _. items-none values index item less is (c.holds_float.ensures.0 c.if-holds_float.true), λ _. refl)

pub some_item_holds_float-loop-value-preserved : goal.some_item_holds_float-loop-value-preserved
some_item_holds_float-loop-value-preserved t c =
    let values = c.args.values.now.items in
    let index = c.loop-value.value-index in
    let item = c.value-item.result in
    let same = c.deref-value-items.ensures.value in
    let less = subst (λ vs. index < length vs) same c.loop-value-test.true in
    let is = subst (λ vs. item ≡ get_or vs index item) same c.value-item.is in
    let jsons = c.loop-value.invariant.0 in
    let whole = some_of (json_of (view item)) (λ none. true≢false (sym (c.holds_float.ensures.1 none) ∙ c.if-holds_float.false)) in
    (jsons ++ whole.0 ∷ [], items-more values index item jsons whole.0 less is c.loop-value.invariant.1 whole.1)

pub some_member_holds_float-returns-then-holds_float : goal.some_member_holds_float-returns-then-holds_float
some_member_holds_float-returns-then-holds_float t c =
    let done = c.loop-name.invariant.0 in
    let entry : Entry = (c.in-Some._name.now, c.in-Some.value.now) in
    let all = c.loop-name.invariant.2 ∙ ap (λ es. done ++ es) c.in-Some.ensures.steps in
    (λ _. ap (λ es. members_of (members_view es)) all ∙ members-none done entry c.next.new.self (c.holds_float.ensures.0 c.if-holds_float.true), λ _. refl)

pub some_member_holds_float-loop-name-preserved : goal.some_member_holds_float-loop-name-preserved
some_member_holds_float-loop-name-preserved t c =
    let done = c.loop-name.invariant.0 in
    let members = c.loop-name.invariant.1 in
    let entry : Entry = (c.in-Some._name.now, c.in-Some.value.now) in
    let left = c.next.new.self in
    let all = c.loop-name.invariant.2 ∙ ap (λ es. done ++ es) c.in-Some.ensures.steps in
    let whole = some_of (json_of (view entry.1)) (λ none. true≢false (sym (c.holds_float.ensures.1 none) ∙ c.if-holds_float.false)) in (
      done ++ entry ∷ [],
      members ++ member_from entry whole.0 ∷ [],
      all ∙ sym (append_assoc done (entry ∷ []) left),
      members-more done entry members whole.0 c.loop-name.invariant.3 whole.1,
    )
