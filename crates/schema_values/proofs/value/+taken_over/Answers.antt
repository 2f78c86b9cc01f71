use Rattle.std.proofs.Common.{◌≡◌, ◌∷◌, ◌++◌, ◌∙◌, sym, ap, [], append_assoc, append-nil, string_cmp, subst}
use Rattle.std.specs.Cmp.Lexicographic.{slice_cmp}
use Rattle.std.specs.List.Sorted.{IsStrictlySortedBy}
use Rattle.std.specs.Map.{keys_of}
use Rattle.std.specs.Ordering.{nat_cmp}
use Rattle.std.specs.Vec.Iter.{into_iter_items}
use Rattle.std.proofs.lemmas.List.{map-append}
use Rattle.std.proofs.lemmas.Result.{err_from_is_err_and}
use Rattle.serde_json.specs.View.{items_view, members_view}
use Rattle.serde_json.proofs.Views.{Entry}
use Rattle.schema_values.specs.Ascending.{IsAscending}
use Rattle.schema_values.specs.AscendingMembers.{HasAscendingValue}
use Rattle.schema_values.specs.Member.{name_of}
use Rattle.schema_values.specs.Reading.{items_of, members_of}
use Rattle.schema_values.specs.Sound.{IsSound, AreDistinct}
use Rattle.schema_values.specs.SoundMembers.{HasSoundValue}
use Rattle.schema_values.proofs.AscendingLemmas.{IsAscending-List, IsAscending-Object, names-sorted}
use Rattle.schema_values.proofs.DistinctLemmas.{AreDistinct-sorted}
use Rattle.schema_values.proofs.ReadingLemmas.{items-after, items-none_in, members-more, members-none, member_from, entry_name}
use Rattle.schema_values.proofs.SoundLemmas.{all-push, IsSound-List, IsSound-Object}
use Rattle.schema_values.proofs.value.+taken_over.Goals as goal

pub items_of_values-returns-in_err-taken_over-clause-err : goal.items_of_values-returns-in_err-taken_over-clause-err
items_of_values-returns-in_err-taken_over-clause-err t c =
    let p = err_from_is_err_and c.from_residual.result c.from_residual.ensures.1 in
    let l = c.loop-value in
    let done = l.invariant.0 in
    rw (p.1, p.2) (λ is_float.
    ap (λ vs. items_of (items_view vs)) (l.invariant.1 ∙ ap (λ vs. done ++ vs) c.in-Some.ensures.steps.0)
    ∙ items-none_in done c.in-Some.value (into_iter_items c.next.new.self) (c.in_err-taken_over.ensures.err is_float))

pub items_of_values-loop-value-preserved : goal.items_of_values-loop-value-preserved
items_of_values-loop-value-preserved t c =
    let l = c.loop-value in
    let done = l.invariant.0 in
    let value = c.in-Some.value in
    let made = c.in_ok-taken_over in (
      done ++ value ∷ [],
      l.invariant.1 ∙ ap (λ vs. done ++ vs) c.in-Some.ensures.steps.0 ∙ sym (append_assoc done (value ∷ []) (into_iter_items c.next.new.self)),
      rw c.in_ok-push.ensures.ok (items-after done value l.items made.field-0 l.invariant.2 made.ensures.ok),
      rw c.in_ok-push.ensures.ok (all-push IsSound l.items made.field-0 l.invariant.3 made.ensures.sound),
      rw c.in_ok-push.ensures.ok (all-push IsAscending l.items made.field-0 l.invariant.4 made.ensures.ascending),
    )

pub members_of_map-returns-in_err-value-clause-err : goal.members_of_map-returns-in_err-value-clause-err
members_of_map-returns-in_err-value-clause-err t c =
    let p = err_from_is_err_and c.from_residual.result c.from_residual.ensures.1 in
    let l = c.loop-key in
    let done = l.invariant.0 in
    let entry : Entry = (c.in-Some.key, c.in-Some.value) in
    rw (p.1, p.2) (λ is_float.
    ap (λ es. members_of (members_view es)) (l.invariant.1 ∙ ap (λ es. done ++ es) c.in-Some.ensures.steps)
    ∙ members-none done entry c.next.new.self (c.in_err-value.ensures.err is_float))

pub members_of_map-loop-key-preserved : goal.members_of_map-loop-key-preserved
members_of_map-loop-key-preserved t c =
    let l = c.loop-key in
    let done = l.invariant.0 in
    let entry : Entry = (c.in-Some.key, c.in-Some.value) in
    let made = member_from entry c.in_ok-value.value in (
      done ++ entry ∷ [],
      l.invariant.1 ∙ ap (λ es. done ++ es) c.in-Some.ensures.steps ∙ sym (append_assoc done (entry ∷ []) c.next.new.self),
      rw (c.in_ok-push.ensures.ok, c.from_string-name.ensures) (members-more done entry l.members c.in_ok-value.value l.invariant.2 c.in_ok-value.ensures.ok),
      rw (c.in_ok-push.ensures.ok, c.from_string-name.ensures) (all-push HasSoundValue l.members made l.invariant.3 c.in_ok-value.ensures.sound),
      rw (c.in_ok-push.ensures.ok, c.from_string-name.ensures) (map-append name_of l.members (made ∷ []) ∙ ap (λ names. names ++ entry_name entry ∷ []) l.invariant.4 ∙ sym (map-append entry_name done (entry ∷ []))),
      rw (c.in_ok-push.ensures.ok, c.from_string-name.ensures) (all-push HasAscendingValue l.members made l.invariant.5 c.in_ok-value.ensures.ascending),
    )

pub taken_over-returns-in_ok-items_of_values-in-Array-clause-sound : goal.taken_over-returns-in_ok-items_of_values-in-Array-clause-sound
taken_over-returns-in_ok-items_of_values-in-Array-clause-sound t c =
    let made = c.in_ok-items_of_values-in-Array in (IsSound-List made.field-0).1 made.ensures.sound

pub taken_over-returns-in_ok-members_of_map-in-Object-clause-sound : goal.taken_over-returns-in_ok-members_of_map-in-Object-clause-sound
taken_over-returns-in_ok-members_of_map-in-Object-clause-sound t c =
    let made = c.in_ok-members_of_map-in-Object in (IsSound-Object made.field-0).1 made.ensures.sound

pub taken_over-returns-in_ok-items_of_values-in-Array-clause-ascending : goal.taken_over-returns-in_ok-items_of_values-in-Array-clause-ascending
taken_over-returns-in_ok-items_of_values-in-Array-clause-ascending t c =
    let made = c.in_ok-items_of_values-in-Array in IsAscending-List made.field-0 made.ensures.ascending

pub taken_over-returns-in_ok-members_of_map-in-Object-clause-ascending : goal.taken_over-returns-in_ok-members_of_map-in-Object-clause-ascending
taken_over-returns-in_ok-members_of_map-in-Object-clause-ascending t c =
    let made = c.in_ok-members_of_map-in-Object in IsAscending-Object made.field-0 made.ensures.ascending

-- the names of a map's entries ascend, once all are taken
pub members_of_map-returns-clause-sound : goal.members_of_map-returns-clause-sound
members_of_map-returns-clause-sound t c =
    let l = c.loop-key in
    let done = l.invariant.0 in
    let all : c.args.map.entries ≡ done = l.invariant.1 ∙ ap (λ es. done ++ es) c.in-None.ensures.steps.0 ∙ append-nil done in
    let sorted = subst (λ es. IsStrictlySortedBy string_cmp (keys_of es)) all c.into_iter-key-iterator.ensures.into_iter_gives.5 in
    (l.invariant.3, subst AreDistinct (sym l.invariant.4) (AreDistinct-sorted _ (names-sorted done sorted)))

pub members_of_map-returns-clause-ascending : goal.members_of_map-returns-clause-ascending
members_of_map-returns-clause-ascending t c =
    let l = c.loop-key in
    let done = l.invariant.0 in
    let all : c.args.map.entries ≡ done = l.invariant.1 ∙ ap (λ es. done ++ es) c.in-None.ensures.steps.0 ∙ append-nil done in
    let sorted = subst (λ es. IsStrictlySortedBy string_cmp (keys_of es)) all c.into_iter-key-iterator.ensures.into_iter_gives.5 in
    (l.invariant.5, subst (IsStrictlySortedBy (slice_cmp nat_cmp)) (sym l.invariant.4) (names-sorted done sorted))
