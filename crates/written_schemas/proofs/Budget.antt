-- The steps of a schema are no more than the JSON values of its document and itself: no definition is met twice on the way.
use Rattle.std.proofs.Common.{◌≡◌, ℕ, ◌+◌, Bool, true, false, List, [], ◌∷◌, map, sum, Option, Some, bytes_eq, cond, refl, sym, ◌∙◌, ap, arith}
use Rattle.std.proofs.lemmas.List.Sums.{sum_by-cons}
use Rattle.std.proofs.lemmas.Slice.Eq.{bytes_eq-Decides}
use Rattle.schema_values.specs.declared.json_value.Json.{Json}
use Rattle.schema_values.specs.declared.json_value.Member.{Member}
use Rattle.schema_values.specs.Get.{first_named}
use Rattle.descriptors.proofs.CallerLemmas.{other_name}

-- the members without the first of a name
unfoldable pub without : List ℕ → List Member → List Member
without name [] = []
without name (m ∷ ms) = cond (bytes_eq name m.name) ms (m ∷ without name ms)

module _ (g : List ℕ → Json → ℕ) where
  abbrev pub summed : List Member → ℕ
  summed ms = sum (map (λ m. g m.name m.value) ms)

  summed_cons : (m : Member) (ms : List Member) → summed (m ∷ ms) ≡ g m.name m.value + summed ms
  summed_cons m ms = sum_by-cons (λ n. n) (g m.name m.value) (map (λ m. g m.name m.value) ms)

  -- a member that is found, and the others
  pub taken : (name : List ℕ) (ms : List Member) (v : Json) → first_named name ms ≡ Some v → summed ms ≡ g name v + summed (without name ms)
  unfolding without
  taken name [] v f = absurd (cc f)
  taken name (m ∷ ms) v f = by_name (bytes_eq name m.name) refl f (taken name ms v)
    where
      by_name : (b : Bool) → bytes_eq name m.name ≡ b → cond b (Some m.value) (first_named name ms) ≡ Some v → (first_named name ms ≡ Some v → summed ms ≡ g name v + summed (without name ms))
          → summed (m ∷ ms) ≡ g name v + summed (cond b ms (m ∷ without name ms))
      by_name true e f later =
          let same : m.name ≡ name = sym ((bytes_eq-Decides name m.name).0 e) in
          let is : m.value ≡ v = cc f in
          summed_cons m ms ∙ ap (λ (n : List ℕ). g n m.value + summed ms) same ∙ ap (λ (j : Json). g name j + summed ms) is
      by_name false e f later = omega (arith, summed_cons m ms, summed_cons m (without name ms), later f)

-- another name is found as before
pub found_without : (name other : List ℕ) (ms : List Member) → (name ≡ other → ⊥) → first_named other (without name ms) ≡ first_named other ms
unfolding without
found_without name other [] ne = refl
found_without name other (m ∷ ms) ne = by_name (bytes_eq name m.name) refl (found_without name other ms ne)
  where
    by_name : (b : Bool) → bytes_eq name m.name ≡ b → first_named other (without name ms) ≡ first_named other ms
        → first_named other (cond b ms (m ∷ without name ms)) ≡ cond (bytes_eq other m.name) (Some m.value) (first_named other ms)
    by_name true e f = rw (other_name other m.name (λ same. ne ((bytes_eq-Decides name m.name).0 e ∙ sym same))) refl
    by_name false e f = ap (λ (o : Option Json). cond (bytes_eq other m.name) (Some m.value) o) f
