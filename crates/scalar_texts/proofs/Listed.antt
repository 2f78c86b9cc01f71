-- Where a name stands among things that have names.
use Rattle.std.proofs.Common.{◌≡◌, ◌≢◌, ℕ, ◌+◌, ◌<◌, Bool, true, false, List, [], ◌∷◌, Some, bytes_eq, cond, sym, ◌∙◌, ap, length, drop, get_or, arith}
use Rattle.std.proofs.lemmas.List.{drop_more}
use Rattle.std.proofs.lemmas.Slice.Eq.{bytes_eq-Decides}
use Rattle.descriptors.proofs.CallerLemmas.{other_name}
use Rattle.typed_values.specs.Denotes.{named_from}

module _ {X : Type 0} (name_of : X → List ℕ) where
  module _ (xs : List X) (name : List ℕ) (i : ℕ) (x : X) (h : i < length xs) (is : x ≡ get_or xs i x) where
    next_named : named_from name_of i (drop i xs) name ≡ cond (bytes_eq (name_of x) name) (Some (i, x)) (named_from name_of (i + 1) (drop (i + 1) xs) name)
    next_named = ap (λ (ys : List X). named_from name_of i ys name) (drop_more xs i x h ∙ ap (λ (y : X). y ∷ drop (i + 1) xs) (sym is))

    -- the name is found here
    pub found_here : name_of x ≡ name → named_from name_of i (drop i xs) name ≡ Some (i, x)
    found_here e = next_named ∙ ap (λ (b : Bool). cond b (Some (i, x)) (named_from name_of (i + 1) (drop (i + 1) xs) name)) ((bytes_eq-Decides (name_of x) name).1 e)

    -- the name is looked for behind
    pub found_behind : name_of x ≢ name → named_from name_of i (drop i xs) name ≡ named_from name_of (i + 1) (drop (i + 1) xs) name
    found_behind e = next_named ∙ ap (λ (b : Bool). cond b (Some (i, x)) (named_from name_of (i + 1) (drop (i + 1) xs) name)) (other_name (name_of x) name e)

  -- a place that is found is one of a name
  pub place_below : (i : ℕ) (xs : List X) (name : List ℕ) (found : ℕ × X) → named_from name_of i xs name ≡ Some found → found.0 < i + length xs
  place_below i [] name found e = absurd (cc e)
  place_below i (x ∷ xs) name found e = by_test (bytes_eq (name_of x) name) (λ f. place_below (i + 1) xs name found f) e
    where
      by_test : (b : Bool) → (named_from name_of (i + 1) xs name ≡ Some found → found.0 < i + 1 + length xs) → cond b (Some (i, x)) (named_from name_of (i + 1) xs name) ≡ Some found → found.0 < i + length (x ∷ xs)
      by_test true later e = let q : (i, x) ≡ found = cc e in let same : i ≡ found.0 = ap (λ (f : ℕ × X). f.0) q in omega (arith, same)
      by_test false later e = let less = later e in omega (arith, less)
