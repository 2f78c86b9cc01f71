-- A sound value, level by level.
use Rattle.std.proofs.Common.{◌≡◌, ◌↔◌, ◌≢◌, ℕ, List, [], ◌∷◌, ◌++◌, map, sym, subst, ap, ◌∙◌}
use Rattle.std.specs.List.{AllByRecursion}
use Rattle.schema_values.specs.declared.json_value.Json.{Json, List as ListOf, Object, Row_of-Json, end_of-Json, more_of-Json, Row_of-Member, end_of-Member, more_of-Member, items-the_row-Json, items-the_row-Member}
use Rattle.schema_values.specs.declared.json_value.Member.{Member}
use Rattle.schema_values.specs.Member.{name_of}
use Rattle.schema_values.specs.SoundMembers.{HasSoundValue, HasSoundMembers}
use Rattle.schema_values.specs.Sound.{IsSound, AreSound, AreSoundMembers, AreDistinct, names}
use Rattle.schema_values.proofs.Rows.{items_row, items_of_row, members_row, members_of_row, names-items}

of_row : (n : _) (row : Row_of-Json n) → AreSound row → AllByRecursion IsSound (items-the_row-Json n row)
of_row n end_of-Json h = tt
of_row n (more_of-Json item rest) h = (h.0, of_row _ rest h.1)

to_row : (n : _) (row : Row_of-Json n) → AllByRecursion IsSound (items-the_row-Json n row) → AreSound row
to_row n end_of-Json h = tt
to_row n (more_of-Json item rest) h = (h.0, to_row _ rest h.1)

pub IsSound-List : (xs : List Json) → IsSound (ListOf xs) ↔ AllByRecursion IsSound xs
IsSound-List xs =
    let row = items_row (ListOf xs) in
    let same = items_of_row xs in
    (λ h. subst (AllByRecursion IsSound) same (of_row row.0 row.1 h), λ h. to_row row.0 row.1 (subst (AllByRecursion IsSound) (sym same) h))

of_members : (n : _) (row : Row_of-Member n) → AreSoundMembers row → AllByRecursion HasSoundValue (items-the_row-Member n row)
of_members n end_of-Member h = tt
of_members n (more_of-Member name value rest) h = (h.0, of_members _ rest h.1)

to_members : (n : _) (row : Row_of-Member n) → AllByRecursion HasSoundValue (items-the_row-Member n row) → AreSoundMembers row
to_members n end_of-Member h = tt
to_members n (more_of-Member name value rest) h = (h.0, to_members _ rest h.1)

pub IsSound-Object : (xs : List Member) → IsSound (Object xs) ↔ HasSoundMembers xs
IsSound-Object xs =
    let row = members_row (Object xs) in
    let same = members_of_row xs in
    let named : names row.1 ≡ map name_of xs = names-items row.0 row.1 ∙ ap (map name_of) same in
    (λ h. (subst (AllByRecursion HasSoundValue) same (of_members row.0 row.1 h.0), subst AreDistinct named h.1), λ h. (to_members row.0 row.1 (subst (AllByRecursion HasSoundValue) (sym same) h.0), subst AreDistinct (sym named) h.1))

new_of_members : (name : List ℕ) (ms : List Member) → AllByRecursion (λ (m : Member). name ≢ name_of m) ms → AllByRecursion (λ (other : List ℕ). name ≢ other) (map name_of ms)
new_of_members name [] h = tt
new_of_members name (m ∷ ms) h = (h.0, new_of_members name ms h.1)

members_of_new : (name : List ℕ) (ms : List Member) → AllByRecursion (λ (other : List ℕ). name ≢ other) (map name_of ms) → AllByRecursion (λ (m : Member). name ≢ name_of m) ms
members_of_new name [] h = tt
members_of_new name (m ∷ ms) h = (h.0, members_of_new name ms h.1)

-- names are distinct where the first is new among the others, which are distinct
pub AreDistinct-cons : (m : Member) (ms : List Member) → AreDistinct (map name_of (m ∷ ms)) ↔ (AllByRecursion (λ (other : Member). name_of m ≢ name_of other) ms × AreDistinct (map name_of ms))
AreDistinct-cons m ms = (λ h. (members_of_new (name_of m) ms h.0, h.1), λ h. (new_of_members (name_of m) ms h.0, h.1))

pub all-push : {X : Type 0} (P : X → Type 0) (xs : List X) (x : X) → AllByRecursion P xs → P x → AllByRecursion P (xs ++ x ∷ [])
all-push P [] x h p = (p, tt)
all-push P (y ∷ ys) x h p = (h.0, all-push P ys x h.1 p)

-- the items of a sound list, and the members of a sound object, are sound
pub items_sound : (j : Json) (items xs : List Json) → j ≡ ListOf items → xs ≡ items → IsSound j → AllByRecursion IsSound xs
items_sound j items xs is same h = subst (AllByRecursion IsSound) (sym same) ((IsSound-List items).0 (subst IsSound is h))

pub members_sound : (j : Json) (members xs : List Member) → j ≡ Object members → xs ≡ members → IsSound j → AllByRecursion HasSoundValue xs
members_sound j members xs is same h = subst (AllByRecursion HasSoundValue) (sym same) ((IsSound-Object members).0 (subst IsSound is h)).0
