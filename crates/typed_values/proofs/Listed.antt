-- Where a name stands among things that have names.
use Rattle.std.proofs.Common.{◌≡◌, ◌≢◌, ℕ, suc, ◌+◌, ◌<◌, Bool, true, false, List, [], ◌∷◌, Option, Some, bytes_eq, cond, refl, sym, ◌∙◌, ap, length, drop, get_or, arith}
use Rattle.std.proofs.lemmas.List.{drop_more}
use Rattle.std.proofs.lemmas.Slice.Eq.{bytes_eq-Decides}
use Rattle.std.specs.Prelude.{Contains, slice_get}
use Rattle.typed_values.specs.Denotes.{named_from}
use Rattle.descriptors.proofs.CallerLemmas.{other_name}
use Rattle.schema_values.proofs.CallerLemmas.{contains_later}

module _ {X : Type 0} (name_of : X → List ℕ) (xs : List X) (name : List ℕ) (i : ℕ) (x : X) (h : i < length xs) (is : x ≡ get_or xs i x) where
  next_named : named_from name_of i (drop i xs) name ≡ cond (bytes_eq (name_of x) name) (Some (i, x)) (named_from name_of (i + 1) (drop (i + 1) xs) name)
  next_named = ap (λ (ys : List X). named_from name_of i ys name) (drop_more xs i x h ∙ ap (λ (y : X). y ∷ drop (i + 1) xs) (sym is))

  -- the name is found here
  pub found_here : name_of x ≡ name → named_from name_of i (drop i xs) name ≡ Some (i, x)
  found_here e = next_named ∙ ap (λ (b : Bool). cond b (Some (i, x)) (named_from name_of (i + 1) (drop (i + 1) xs) name)) ((bytes_eq-Decides (name_of x) name).1 e)

  -- the name is looked for behind
  pub found_behind : name_of x ≢ name → named_from name_of i (drop i xs) name ≡ named_from name_of (i + 1) (drop (i + 1) xs) name
  found_behind e = next_named ∙ ap (λ (b : Bool). cond b (Some (i, x)) (named_from name_of (i + 1) (drop (i + 1) xs) name)) (other_name (name_of x) name e)

-- what is found has the name, and stands at its place, counted from a place
pub record IsFound {X : Type 0} (name_of : X → List ℕ) (i : ℕ) (xs : List X) (name : List ℕ) (found : ℕ × X) : Type 0 where
  pub place : ℕ
  pub is : i + place ≡ found.0
  pub within : place < length xs
  pub there : slice_get xs place ≡ Some found.1
  pub inside : Contains xs found.1
  pub named : name_of found.1 ≡ name

module _ {X : Type 0} (name_of : X → List ℕ) where
  found_by : (i : ℕ) (x : X) (xs : List X) (name : List ℕ) (found : ℕ × X) (b : Bool) (o : Option (ℕ × X)) → bytes_eq (name_of x) name ≡ b → (o ≡ Some found → IsFound name_of (i + 1) xs name found) → cond b (Some (i, x)) o ≡ Some found
      → IsFound name_of i (x ∷ xs) name found
  found_by i x xs name found true o t later e =
      let q : (i, x) ≡ found = cc e in
      let same : i ≡ found.0 = ap (λ (f : ℕ × X). f.0) q in
      let it : x ≡ found.1 = ap (λ (f : ℕ × X). f.1) q in
      record {
        place = 0;
        is = omega (arith, same);
        within = omega arith;
        there = ap Some it;
        inside = (0, omega arith, it);
        named = ap name_of (sym it) ∙ (bytes_eq-Decides (name_of x) name).0 t;
      }
  found_by i x xs name found false o t later e =
      let f = later e in
      record { place = suc f.place; is = omega (arith, f.is); within = omega (arith, f.within); there = f.there; inside = contains_later x xs found.1 f.inside; named = f.named }

  found_from : (i : ℕ) (xs : List X) (name : List ℕ) (found : ℕ × X) → named_from name_of i xs name ≡ Some found → IsFound name_of i xs name found
  found_from i [] name found e = absurd (cc e)
  found_from i (x ∷ xs) name found e = found_by i x xs name found (bytes_eq (name_of x) name) (named_from name_of (i + 1) xs name) refl (found_from (i + 1) xs name found) e

  module _ (xs : List X) (name : List ℕ) (found : ℕ × X) (e : named_from name_of 0 xs name ≡ Some found) where
    -- a place that is found is one of a name
    pub place_below : found.0 < length xs
    place_below = let f = found_from 0 xs name found e in omega (arith, f.is, f.within)

    -- what is found stands at the place
    pub found_there : slice_get xs found.0 ≡ Some found.1
    found_there = let f = found_from 0 xs name found e in ap (slice_get xs) (sym f.is ∙ omega arith) ∙ f.there

    -- what is found is one of the things
    pub found_inside : Contains xs found.1
    found_inside = (found_from 0 xs name found e).inside

    -- what is found has the name
    pub found_named : name_of found.1 ≡ name
    found_named = (found_from 0 xs name found e).named
