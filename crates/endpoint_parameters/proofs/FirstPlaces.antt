-- The first place at which something holds of a thing, and the thing that is lent there.
use Rattle.std.proofs.Common.{◌≡◌, inl, inr, ◌⊎◌, ℕ, ◌+◌, ◌<◌, List, [], ◌∷◌, length, take, get_or, Option, Some, None, sym, subst, arith}
use Rattle.std.specs.Prelude.{Contains, MatchOption}
use Rattle.std.specs.List.{ItemBy}
use Rattle.std.proofs.lemmas.List.{get_or-take, length-take-le, take_more}
use Rattle.std.proofs.lemmas.List.Elements.{All-more, All-weaker, Contains-append_left, Contains-push}
use Rattle.std.proofs.lemmas.Option.{get_or_from_slice_get, slice_get-get_or}
use Rattle.endpoint_parameters.specs.Firsts.{IsFirstOf, IsFirstPlace, IsSuchAt, NoneOf}
use Rattle.endpoint_parameters.proofs.Firsts.{first_at}

module _ {A : Type 0} (Holds : A → Type 0) (things : List A) where
  module _ (places : List ℕ) (end first i : ℕ) (inside : i < length places) (so_far : IsFirstPlace Holds things (take i places) end first) where
    -- the places that were read are those before this one, and it
    read_before : (q : ℕ) → Contains (take i places) q → Contains (take (i + 1) places) q
    read_before q among =
        subst (λ (ps : List ℕ). Contains ps q) (sym (take_more places i 0 inside)) (Contains-append_left (take i places) (get_or places i 0 ∷ []) q among)

    read_here : Contains (take (i + 1) places) (get_or places i 0)
    read_here = subst (λ (ps : List ℕ). Contains ps (get_or places i 0)) (sym (take_more places i 0 inside)) (Contains-push (take i places) (get_or places i 0))

    -- the next place is the first now, where it stands before the first so far and something holds there
    pub earlier_found : get_or places i 0 < first → IsSuchAt Holds things (get_or places i 0) → IsFirstPlace Holds things (take (i + 1) places) end (get_or places i 0)
    earlier_found earlier such = record {
      within = omega (arith, earlier, so_far.within);
      among = inr read_here;
      is_such = inr such;
      none_earlier =
          All-more (λ q. q < get_or places i 0 → ¬ IsSuchAt Holds things q) places i 0 inside
          (All-weaker (λ q. q < first → ¬ IsSuchAt Holds things q) (λ q. q < get_or places i 0 → ¬ IsSuchAt Holds things q) (λ q none below. none (omega (arith, earlier, below))) (take i places) so_far.none_earlier)
          (λ below. absurd (omega (arith, below)));
    }

    -- otherwise it changes nothing
    pub none_found : (get_or places i 0 < first → ¬ IsSuchAt Holds things (get_or places i 0)) → IsFirstPlace Holds things (take (i + 1) places) end first
    none_found none = record {
      within = so_far.within;
      among = elim so_far.among [
        | inl end ↦ inl end
        | inr there ↦ inr (read_before first there)
      ];
      is_such = so_far.is_such;
      none_earlier = All-more (λ q. q < first → ¬ IsSuchAt Holds things q) places i 0 inside so_far.none_earlier none;
    }

  module _ (first : ℕ) (is_such : (first ≡ length things) ⊎ IsSuchAt Holds things first) (none : (q : ℕ) → q < first → ¬ IsSuchAt Holds things q) where
    none_at : (k : ℕ) (d : A) → k < length things → k < first → ¬ Holds (get_or things k d)
    none_at k d inside below holds = none k below record { thing = get_or things k d; found = slice_get-get_or things k d inside; holds = holds }

    none_before : first < length things → NoneOf Holds (take first things)
    none_before inside = λ k d within.
        let so_many : length (take first things) ≡ first = length-take-le first things (omega (arith, inside)) in
        let below : k < first = omega (arith, within, so_many) in
        λ holds. none_at k d (omega (arith, below, inside)) below (subst Holds (get_or-take first things k d below) holds)

    holds_there : (d : A) → first < length things → Holds (get_or things first d)
    holds_there d inside = elim is_such [
      | inl end ↦ absurd (omega (arith, end, inside))
      | inr such ↦ subst Holds (sym (get_or_from_slice_get things first such.thing d such.found)) such.holds
    ]

    -- what is lent at that place is the first of which it holds; where nothing is, it holds of none
    pub first_lent : {R : Type 0} (now : R → A) (lent : Option R) → ItemBy now things first first lent → MatchOption lent (NoneOf Holds things) (λ r. IsFirstOf Holds things (now r))
    first_lent now None item = λ k d inside. none_at k d inside (omega (arith, inside, item.3))
    first_lent now (Some r) item =
        let inside : first < length things = item.3.0 in
        subst (IsFirstOf Holds things) (sym (item.3.1 (now r))) (first_at Holds things first (now r) inside (none_before inside) (holds_there (now r) inside))
