-- The first of several things, found place by place.
use Rattle.std.proofs.Common.{◌≡◌, inl, inr, ℕ, suc, ◌+◌, ◌<◌, List, [], ◌∷◌, ◌++◌, length, map, take, drop, get_or, append_assoc, refl, sym, ◌∙◌, ap, subst, arith}
use Rattle.std.proofs.Math.Seq.{drop-cons}
use Rattle.std.specs.Prelude.{Contains}
use Rattle.std.proofs.lemmas.List.{map-append, take-append-drop, take_all}
use Rattle.std.proofs.lemmas.List.Elements.{All-append, All-cons, All-contains, All-map, All-nil, Contains-append_right}
use Rattle.schema_values.proofs.CallerLemmas.{contains_cases}
use Rattle.endpoint_parameters.specs.Firsts.{IsFirstOf, NoneOf}

-- the thing at a place is the first, where none before it is
pub first_at : {A : Type 0} (Holds : A → Type 0) (things : List A) (place : ℕ) (d : A) → place < length things
    → NoneOf Holds (take place things) → Holds (get_or things place d) → IsFirstOf Holds things (get_or things place d)
first_at Holds things place d inside none here = record {
  earlier = take place things;
  later = drop (suc place) things;
  in_order = sym (take-append-drop place things) ∙ ap (λ rest. take place things ++ rest) (drop-cons things place d inside);
  none_earlier = none;
  holds = here;
}

-- it holds of none, where it holds of none before the end
pub none_at_end : {A : Type 0} (Holds : A → Type 0) (things : List A) (place : ℕ) → length things < place + 1 → NoneOf Holds (take place things) → NoneOf Holds things
none_at_end Holds things place end none = subst (NoneOf Holds) (take_all place things (omega (arith, end))) none

-- a thing between others stands among them
pub among : {A : Type 0} (things earlier later : List A) (thing : A) → things ≡ earlier ++ thing ∷ later → Contains things thing
among things earlier later thing is = subst (λ xs. Contains xs thing) (sym is) (Contains-append_right earlier (thing ∷ later) thing (0, omega arith, refl))

-- where it holds of none, no thing is the first
pub none_not_first : {A : Type 0} (Holds : A → Type 0) (things : List A) (thing : A) → NoneOf Holds things → ¬ IsFirstOf Holds things thing
none_not_first Holds things thing none first =
    All-contains (λ other. ¬ Holds other) things thing none (among things first.earlier first.later thing first.in_order) first.holds

-- of what is seen of things the same is the first
pub first-map : {A B : Type 0} (see : A → B) (Holds : B → Type 0) (things : List A) (thing : A) → IsFirstOf (λ x. Holds (see x)) things thing → IsFirstOf Holds (map see things) (see thing)
first-map see Holds things thing first = record {
  earlier = map see first.earlier;
  later = map see first.later;
  in_order = ap (map see) first.in_order ∙ map-append see first.earlier (thing ∷ first.later);
  none_earlier = All-map (λ y. ¬ Holds y) see first.earlier first.none_earlier;
  holds = first.holds;
}

-- and none where it is none
pub none-map : {A B : Type 0} (see : A → B) (Holds : B → Type 0) (things : List A) → NoneOf (λ x. Holds (see x)) things → NoneOf Holds (map see things)
none-map see Holds things none = All-map (λ y. ¬ Holds y) see things none

module _ {A : Type 0} (Holds : A → Type 0) where
  none_behind : (earlier later : List A) → NoneOf Holds earlier → ((x : A) → ¬ IsFirstOf Holds (earlier ++ later) x) → (x : A) → Contains later x → ¬ Holds x
  none_behind earlier [] none never x inside holds = absurd (omega (arith, inside.1))
  none_behind earlier (y ∷ later) none never x inside holds =
      let not_here : ¬ Holds y = λ here. never y record { earlier = earlier; later = later; in_order = refl; none_earlier = none; holds = here } in
      elim (contains_cases y later x inside) [
        | inl same ↦ not_here (subst Holds (sym same) holds)
        | inr rest ↦
            none_behind (earlier ++ y ∷ []) later
            (All-append (λ z. ¬ Holds z) earlier (y ∷ []) none (All-cons (λ z. ¬ Holds z) y [] not_here (All-nil (λ z. ¬ Holds z))))
            (λ z first. never z (subst (λ zs. IsFirstOf Holds zs z) (append_assoc earlier (y ∷ []) later) first)) x rest holds
      ]

  -- it holds of none, where no thing is the first
  pub none_holds : (things : List A) → ((x : A) → ¬ IsFirstOf Holds things x) → (x : A) → Contains things x → ¬ Holds x
  none_holds things never = none_behind [] things (All-nil (λ z. ¬ Holds z)) never
