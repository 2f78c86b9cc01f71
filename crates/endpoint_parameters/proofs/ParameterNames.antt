-- The names of parameters in one place.
use Rattle.std.proofs.Common.{◌≡◌, inl, inr, ℕ, suc, ◌+◌, ◌<◌, List, [], ◌∷◌, length, map, filter, drop, get_or, add-one, drop-cons, refl}
use Rattle.std.specs.Prelude.{◌↔◌, Contains, IsTrue}
use Rattle.std.proofs.lemmas.Bool.{cases_Bool}
use Rattle.std.proofs.lemmas.List.Elements.{All-cons, All-contains, All-nil, Contains-append_cases, Contains-append_right}
use Rattle.endpoint_parameters.specs.declared.parameter.Place.{Place}
use Rattle.endpoint_parameters.specs.ParameterCodes.{is_in}
use Rattle.endpoint_parameters.specs.Parameters.{Parameter, name_of}

module _ (place : Place) (name : List ℕ) where
  -- some of the parameters in the place have the name
  abbrev IsUsed : List Parameter → Type 0
  IsUsed ps = Contains (map name_of (filter (is_in place) ps)) name

  abbrev other : List ℕ → Type 0
  other n = ¬ (n ≡ name)

  -- one that stands elsewhere or under another name may be left out
  left_out : (p : Parameter) (ps : List Parameter) → ¬ (IsTrue (is_in place p) × (name_of p ≡ name)) → IsUsed (p ∷ ps) ↔ IsUsed ps
  left_out p ps apart = elim (cases_Bool (is_in place p)) [
    | inl here ↦
        rw here (
          λ used. elim (Contains-append_cases (name_of p ∷ []) (map name_of (filter (is_in place) ps)) name used) [
            | inl one ↦ absurd (All-contains other (name_of p ∷ []) name (All-cons other (name_of p) [] (λ same. apart (here, same)) (All-nil other)) one refl)
            | inr rest ↦ rest
          ],
          λ used. Contains-append_right (name_of p ∷ []) (map name_of (filter (is_in place) ps)) name used,
        )
    | inr elsewhere ↦ rw elsewhere (λ used. used, λ used. used)
  ]

  pub used_later : (ps : List Parameter) (i : ℕ) (p : Parameter) → i < length ps → p ≡ get_or ps i p → ¬ (IsTrue (is_in place p) × (name_of p ≡ name))
      → IsUsed (drop i ps) ↔ IsUsed (drop (i + 1) ps)
  used_later ps i p inside is apart = rw (add-one, drop-cons ps i p inside, ← is) (left_out p (drop (suc i) ps) apart)
