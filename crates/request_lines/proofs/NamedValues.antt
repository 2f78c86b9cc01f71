-- The value of the first member of a name, before and after a member is taken out.
use Rattle.std.proofs.Common.{◌≡◌, ℕ, zero, suc, ◌+◌, ◌<◌, ◌≤◌, Bool, true, false, not, List, [], ◌∷◌, ◌++◌, length}
use Rattle.std.proofs.Common.{get_or, take, drop, Option, Some, None, bytes_eq, cond, map, refl}
use Rattle.std.proofs.Common.{sym, ap, ◌∙◌, subst, arith}
use Rattle.std.specs.List.{AllByRecursion, position, position_or_len}
use Rattle.std.proofs.lemmas.Bool.{cond-true, cond-false}
use Rattle.std.proofs.lemmas.Grind.{common_steps}
use Rattle.std.proofs.lemmas.List.Quantifiers.{position-Some}
use Rattle.std.proofs.lemmas.Slice.Eq.{bytes_eq-Decides}
use Rattle.schema_values.specs.declared.json_value.Json.{Json}
use Rattle.schema_values.specs.declared.json_value.Member.{Member}
use Rattle.schema_values.specs.Member.{name_of}
use Rattle.schema_values.specs.Sound.{AreDistinct, IsSound}
use Rattle.schema_values.specs.SoundMembers.{HasSoundMembers, HasSoundValue}
use Rattle.schema_values.proofs.CallerLemmas.{IsSound-Object}
use Rattle.typed_values.specs.Denotes.{value_named}
use Rattle.request_lines.specs.Said.{AreMembers, KeepsOthers}

value_here : (ms : List Member) (name : List ℕ) (i : ℕ) (d : Member) → i < length ms
    → bytes_eq (get_or ms i d).name name ≡ true → ((k : ℕ) → k < i → bytes_eq (get_or ms k d).name name ≡ false)
    → value_named ms name ≡ Some (get_or ms i d).value
value_here [] name i d less is before = absurd (omega (arith, less))
value_here (m ∷ ms) name zero d less is before = cond-true _ _ _ is
value_here (m ∷ ms) name (suc i) d less is before =
    cond-false _ _ _ (before 0 (omega arith))
    ∙ value_here ms name i d (omega (arith, less)) is (λ k below. before (suc k) (omega (arith, below)))

value_nowhere : (ms : List Member) (name : List ℕ)
    → length ms ≤ position_or_len (λ (m : Member). bytes_eq m.name name) ms → value_named ms name ≡ None
value_nowhere [] name far = refl
value_nowhere (m ∷ ms) name far = by (bytes_eq m.name name) far (value_nowhere ms name)
  where
    places : ℕ
    places = position_or_len (λ (n : Member). bytes_eq n.name name) ms

    by : (b : Bool) → length (m ∷ ms) ≤ cond (not b) (1 + places) 0
        → (length ms ≤ places → value_named ms name ≡ None) → cond b (Some m.value) (value_named ms name) ≡ None
    by true far later = absurd (omega (arith, far))
    by false far later = later (omega (arith, far))

-- a member of another name makes no difference
value_left : (ms : List Member) (name : List ℕ) (i : ℕ) (d : Member) → i < length ms
    → bytes_eq (get_or ms i d).name name ≡ false
    → value_named (take i ms ++ drop (suc i) ms) name ≡ value_named ms name
value_left [] name i d less other = absurd (omega (arith, less))
value_left (m ∷ ms) name zero d less other = sym (cond-false _ _ _ other)
value_left (m ∷ ms) name (suc i) d less other =
    ap (λ (o : Option Json). cond (bytes_eq m.name name) (Some m.value) o)
    (value_left ms name i d (omega (arith, less)) other)

-- ---- the place of a name

abbrev pub place_in : List ℕ → List Member → Option ℕ
place_in name ms = position (λ (m : Member). bytes_eq m.name name) ms

pub value_absent : (ms : List Member) (name : List ℕ) → place_in name ms ≡ None → value_named ms name ≡ None
value_absent ms name none = value_nowhere ms name (grind (arith, common_steps))

pub value_taken : (ms : List Member) (name : List ℕ) (i : ℕ) (m : Member) → place_in name ms ≡ Some i
    → m ≡ get_or ms i m → value_named ms name ≡ Some m.value
value_taken ms name i m at is =
    let (less, here, before) = position-Some (λ (n : Member). bytes_eq n.name name) ms i m at in
    value_here ms name i m less here before ∙ ap (λ (n : Member). Some n.value) (sym is)

pub others_kept : (ms left : List Member) (name : List ℕ) (i : ℕ) (m : Member) → place_in name ms ≡ Some i
    → left ≡ take i ms ++ drop (suc i) ms → KeepsOthers name ms left
others_kept ms left name i m at is other apart =
    let (less, here, before) = position-Some (λ (n : Member). bytes_eq n.name name) ms i m at in
    let named : (get_or ms i m).name ≡ name = (bytes_eq-Decides (get_or ms i m).name name).0 here in
    ap (λ (ns : List Member). value_named ns other) is
    ∙ value_left ms other i m less (ap (λ (key : List ℕ). bytes_eq key other) named ∙ apart)

-- a value is sound where each is
value_sound : (ms : List Member) (name : List ℕ) (json : Json) → AllByRecursion HasSoundValue ms
    → value_named ms name ≡ Some json → IsSound json
value_sound [] name json all is = absurd (cc is)
value_sound (m ∷ ms) name json all is = by (bytes_eq m.name name) is (value_sound ms name json all.1)
  where
    by : (b : Bool) → cond b (Some m.value) (value_named ms name) ≡ Some json
        → (value_named ms name ≡ Some json → IsSound json) → IsSound json
    by true is later = let same : m.value ≡ json = cc is in subst IsSound same all.0
    by false is later = later is

-- the names of an object in a sound one are distinct
pub distinct_in : (ms : List Member) (name : List ℕ) (inner : List Member) → HasSoundMembers ms
    → AreMembers (value_named ms name) inner → AreDistinct (map name_of inner)
distinct_in ms name inner sound are = by (value_named ms name) refl are
  where
    by : (value : Option Json) → value_named ms name ≡ value → AreMembers value inner → AreDistinct (map name_of inner)
    by None is none = subst (λ (ns : List Member). AreDistinct (map name_of ns)) (sym none) tt
    by (Some json) is object =
        ((IsSound-Object inner).0 (subst IsSound object (value_sound ms name json sound.0 is))).1
