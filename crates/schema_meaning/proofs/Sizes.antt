-- Numbers under names: the first of a name, and the others.
use Rattle.std.proofs.Common.{◌≡◌, ℕ, ◌+◌, ◌≤◌, Bool, true, false, List, [], ◌∷◌, map, sum, Some, option_map, bytes_eq, cond, refl, sym, ◌∙◌, ap, arith, ◌⊎◌, inl, inr}
use Rattle.std.specs.Prelude.{find}
use Rattle.std.proofs.lemmas.List.Sums.{sum_by-cons}
use Rattle.std.proofs.lemmas.Slice.Eq.{bytes_eq-Decides}
use Rattle.openapi_values.specs.Find.{value_at}

abbrev pub Sizes : Type 0
Sizes = List (List ℕ × ℕ)

pub same_or_not : (n m : List ℕ) → (n ≡ m) ⊎ (n ≡ m → ⊥)
same_or_not n m = by_test (bytes_eq n m) refl
  where
    by_test : (b : Bool) → bytes_eq n m ≡ b → (n ≡ m) ⊎ (n ≡ m → ⊥)
    by_test true e = inl ((bytes_eq-Decides n m).0 e)
    by_test false e = inr (λ h. let t : bytes_eq n m ≡ true = (bytes_eq-Decides n m).1 h in cc)

-- the numbers without the first of a name
unfoldable pub without : List ℕ → Sizes → Sizes
without name [] = []
without name (e ∷ es) = cond (bytes_eq name e.0) es (e ∷ without name es)

module _ (g : List ℕ → ℕ → ℕ) where
  abbrev pub summed : Sizes → ℕ
  summed es = sum (map (λ e. g e.0 e.1) es)

  summed_cons : (e : List ℕ × ℕ) (es : Sizes) → summed (e ∷ es) ≡ g e.0 e.1 + summed es
  summed_cons e es = sum_by-cons (λ n. n) (g e.0 e.1) (map (λ e. g e.0 e.1) es)

  -- the one of the name, and the others
  pub taken : (name : List ℕ) (es : Sizes) (k : ℕ) → value_at name es ≡ Some k → summed es ≡ g name k + summed (without name es)
  unfolding without
  taken name [] k f = absurd (cc f)
  taken name (e ∷ es) k f = by_name (bytes_eq name e.0) refl f (taken name es k)
    where
      by_name : (b : Bool) → bytes_eq name e.0 ≡ b → option_map (λ pair. pair.1) (cond b (Some e) (find (λ pair. bytes_eq name pair.0) es)) ≡ Some k
          → (value_at name es ≡ Some k → summed es ≡ g name k + summed (without name es)) → summed (e ∷ es) ≡ g name k + summed (cond b es (e ∷ without name es))
      by_name true t f later =
          let same : e.0 ≡ name = sym ((bytes_eq-Decides name e.0).0 t) in
          let is : e.1 ≡ k = cc f in
          summed_cons e es ∙ ap (λ (n : List ℕ). g n e.1 + summed es) same ∙ ap (λ (j : ℕ). g name j + summed es) is
      by_name false t f later = omega (arith, summed_cons e es, summed_cons e (without name es), later f)

pub sums_below : (f g : List ℕ → ℕ → ℕ) → ((name : List ℕ) (k : ℕ) → f name k ≤ g name k) → (es : Sizes) → summed f es ≤ summed g es
sums_below f g h [] = omega arith
sums_below f g h (e ∷ es) = omega (arith, h e.0 e.1, sums_below f g h es, sum_by-cons (λ n. n) (f e.0 e.1) (map (λ e. f e.0 e.1) es), sum_by-cons (λ n. n) (g e.0 e.1) (map (λ e. g e.0 e.1) es))

-- what stands under another name is as before
pub named_without : (name other : List ℕ) (es : Sizes) → (name ≡ other → ⊥) → value_at other (without name es) ≡ value_at other es
unfolding without
named_without name other [] ne = refl
named_without name other (e ∷ es) ne = by_name (bytes_eq name e.0) (bytes_eq other e.0) refl refl (named_without name other es ne)
  where
    by_name : (b c : Bool) → bytes_eq name e.0 ≡ b → bytes_eq other e.0 ≡ c → value_at other (without name es) ≡ value_at other es
        → value_at other (cond b es (e ∷ without name es)) ≡ option_map (λ pair. pair.1) (cond c (Some e) (find (λ pair. bytes_eq other pair.0) es))
    by_name true true t u f = absurd (ne ((bytes_eq-Decides name e.0).0 t ∙ sym ((bytes_eq-Decides other e.0).0 u)))
    by_name true false t u f = refl
    by_name false true t u f = rw u refl
    by_name false false t u f = rw u f
