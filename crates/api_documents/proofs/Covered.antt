-- As many rounds as a table has definitions reach all that is reached.
use Rattle.std.proofs.Common.{◌≡◌, ℕ, zero, suc, ◌+◌, ◌-◌, ◌≤◌, List, [], ◌∷◌, length, Bool, true, ◌||◌, cond, Some}
use Rattle.std.proofs.Common.{inl, inr, refl, sym, ◌∙◌, ap, subst, arith}
use Rattle.std.specs.Prelude.{Contains}
use Rattle.std.specs.List.{list_any, AllByRecursion}
use Rattle.std.proofs.lemmas.Bool.{cases_lt, or_left, or_right}
use Rattle.descriptors.specs.declared.desc.Desc.{Desc}
use Rattle.descriptors.specs.declared.table.Definition.{Definition}
use Rattle.descriptors.specs.Definitions.{entry_of}
use Rattle.typed_values.specs.Reached.{Mentions, IsReached, directly, through}
use Rattle.schema_values.proofs.CallerLemmas.{contains_cases}
use Rattle.descriptors.proofs.CallerLemmas.{entry_name}
use Rattle.typed_values.proofs.CallerLemmas.{entry_inside}
use Rattle.api_documents.specs.Ordered.{is_among}
use Rattle.api_documents.specs.References.{reached_within, references, referred_by}
use Rattle.api_documents.proofs.Among.{any_contained, among_texts, among_joined}
use Rattle.api_documents.proofs.Growing.{StaysAt, some_stay}
use Rattle.api_documents.proofs.ReferenceRows.{mentioned}

any_same : {X : Type 0} (p q : X → Bool) (xs : List X) → AllByRecursion (λ x. p x ≡ q x) xs
    → list_any p xs ≡ list_any q xs
any_same p q [] h = refl
any_same p q (x ∷ xs) h = ap (λ (b : Bool). b || list_any p xs) h.0 ∙ ap (λ (b : Bool). q x || b) (any_same p q xs h.1)

pub all_contained : {X : Type 0} (P : X → Type 0) (xs : List X) (x : X) → AllByRecursion P xs → Contains xs x → P x
all_contained P [] x h c = absurd (omega (arith, c.1))
all_contained P (y ∷ xs) x h c =
    elim (contains_cases y xs x c) [ inl same ↦ subst P same h.0 | inr later ↦ all_contained P xs x h.1 later ]

-- so many steps, and more
after_more : ℕ → ℕ → ℕ
after_more zero k = k
after_more (suc j) k = suc (after_more j k)

after_more-plus : (j k : ℕ) → after_more j k ≡ j + k
unfolding after_more
after_more-plus zero k = omega arith
after_more-plus (suc j) k = omega (arith, after_more-plus j k)

module _ (table : List Definition) (roots : List (List ℕ)) where
  abbrev is_reached : ℕ → List ℕ → Bool
  is_reached n name = is_among name (reached_within table roots n)

  abbrev reached_by : ℕ → Definition → Bool
  reached_by n e = is_reached n e.name

  further : ℕ → List ℕ → Bool
  further n name = list_any (λ e. is_among name (cond (reached_by n e) (references e.desc) [])) table

  -- within one step more, what definitions of such names refer to is reached too
  one_step : (n : ℕ) (name : List ℕ) → is_reached (suc n) name ≡ (is_reached n name || further n name)
  unfolding further
  one_step n name =
      among_texts name (referred_by (reached_within table roots n) table) (reached_within table roots n)
      ∙ ap (λ (b : Bool). is_reached n name || b)
      (among_joined name (λ e. cond (reached_by n e) (references e.desc) []) table)

  stays_reached : (n : ℕ) (name : List ℕ) → is_reached n name ≡ true → is_reached (suc n) name ≡ true
  stays_reached n name h = one_step n name ∙ or_left _ _ h

  reached_later : (n k : ℕ) (name : List ℕ) → n ≤ k → is_reached n name ≡ true → is_reached k name ≡ true
  reached_later n zero name le h = let z : n ≡ 0 = omega (arith, le) in subst (λ (i : ℕ). is_reached i name ≡ true) z h
  reached_later n (suc k) name le h = elim (cases_lt n (suc k)) [
    | inl below ↦ stays_reached k name (reached_later n k name (omega (arith, below)) h)
    | inr above ↦ let z : n ≡ suc k = omega (arith, le, above) in subst (λ (i : ℕ). is_reached i name ≡ true) z h
  ]

  AreAs : ℕ → ℕ → List Definition → Type 0
  AreAs n k es = AllByRecursion (λ e. reached_by n e ≡ reached_by k e) es

  further_same : (n k : ℕ) → AreAs n k table → (name : List ℕ) → further n name ≡ further k name
  unfolding further AreAs
  further_same n k same name = any_same _ _ table (each table same)
    where
      each : (es : List Definition) → AllByRecursion (λ e. reached_by n e ≡ reached_by k e) es
          → AllByRecursion
          (λ e. is_among name (cond (reached_by n e) (references e.desc) [])
          ≡ is_among name (cond (reached_by k e) (references e.desc) [])) es
      each [] h = tt
      each (e ∷ es) h = (ap (λ (b : Bool). is_among name (cond b (references e.desc) [])) h.0, each es h.1)

  one_more : (n k : ℕ) → ((name : List ℕ) → further n name ≡ further k name) → (es : List Definition)
      → AllByRecursion (λ e. reached_by (suc k) e ≡ reached_by k e) es → AreAs n k es → AreAs (suc n) k es
  unfolding AreAs further
  one_more n k same [] stays as_before = tt
  one_more n k same (e ∷ es) stays as_before = (
    one_step n e.name ∙ ap (λ (b : Bool). b || further n e.name) as_before.0
        ∙ ap (λ (b : Bool). reached_by k e || b) (same e.name) ∙ sym (one_step k e.name) ∙ stays.0,
    one_more n k same es stays.1 as_before.1,
  )

  all_as : (k : ℕ) (es : List Definition) → AreAs k k es
  unfolding AreAs
  all_as k [] = tt
  all_as k (e ∷ es) = (refl, all_as k es)

  stay_on : (k j : ℕ) → StaysAt table reached_by (λ n e. stays_reached n e.name) k → AreAs (after_more j k) k table
  unfolding after_more
  stay_on k zero stays = all_as k table
  stay_on k (suc j) stays = let before =
      stay_on k j stays in one_more (after_more j k) k (further_same (after_more j k) k before) table stays before

  -- what some steps reach, as many steps reach as there are definitions
  reached_soon : (n : ℕ) (e : Definition) → Contains table e → reached_by n e ≡ true
      → reached_by (length table) e ≡ true
  unfolding AreAs
  reached_soon n e inside h =
      let stay = some_stay table reached_by (λ n e. stays_reached n e.name) in
      elim (cases_lt n (length table)) [
        | inl below ↦ reached_later n (length table) e.name (omega (arith, below)) h
        | inr above ↦
            let same : after_more (n - stay.0) stay.0 ≡ n =
            omega (arith, after_more-plus (n - stay.0) stay.0, above, stay.1) in
            let at_stay : reached_by (after_more (n - stay.0) stay.0) e ≡ reached_by stay.0 e =
            all_contained _ table e (stay_on stay.0 (n - stay.0) stay.2) inside in
            reached_later stay.0 (length table) e.name stay.1 (sym at_stay ∙ ap (λ (i : ℕ). reached_by i e) same ∙ h)
      ]

  module _ (desc : Desc) (roots_cover : (name : List ℕ) → Mentions desc name → is_among name roots ≡ true) where
    reached_some : (name : List ℕ) → IsReached table desc name → (n : ℕ) × (is_reached n name ≡ true)
    unfolding further
    reached_some name (directly same mentions) = (0, among_texts name roots [] ∙ roots_cover name mentions)
    reached_some name (through other same e r f mentions) =
        let before = reached_some other r in
        let is : e.name ≡ other = entry_name table other e f in
        let here : is_among name (cond (reached_by before.0 e) (references e.desc) []) ≡ true =
        ap (λ (b : Bool). is_among name (cond b (references e.desc) [])) (ap (is_reached before.0) is ∙ before.1)
        ∙ mentioned name e.desc mentions in (
          suc before.0,
          one_step before.0 name
              ∙ or_right _ _ (any_contained _ table e (entry_inside table other e f) here),
        )

    -- a definition that a descriptor reaches is reached from roots that have what the descriptor mentions
    pub covered : (name : List ℕ) (e : Definition) → IsReached table desc name → entry_of table name ≡ Some e
        → is_reached (length table) name ≡ true
    covered name e r f =
        let some = reached_some name r in
        let is : e.name ≡ name = entry_name table name e f in
        ap (is_reached (length table)) (sym is)
        ∙ reached_soon some.0 e (entry_inside table name e f) (ap (is_reached some.0) is ∙ some.1)
