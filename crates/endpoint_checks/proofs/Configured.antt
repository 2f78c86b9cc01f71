-- A name is looked up among entries with success exactly where it is one of their names.
use Rattle.std.proofs.Common.{◌≡◌, ◌↔◌, ℕ, false, true, List, [], ◌∷◌, map, Option, Some, Equal, Less, Greater, inl, inr, ap, arith, is_some, cond, refl, subst, sym, ◌∙◌}
use Rattle.std.proofs.lemmas.Bool.{cases_Bool}
use Rattle.std.proofs.lemmas.Cmp.{nat_list_cmp_total, tied_itself}
use Rattle.std.proofs.lemmas.Map.Lookups.{exact_bytes}
use Rattle.std.specs.BTreeMap.{is_at}
use Rattle.std.specs.Cmp.Lexicographic.{slice_cmp}
use Rattle.std.specs.Map.{lookup}
use Rattle.std.specs.Ordering.{is_eq, nat_cmp}
use Rattle.std.specs.Prelude.{Contains}
use Rattle.std.specs.declared.cmp.Ordering.{Ordering}
use Rattle.schema_values.proofs.CallerLemmas.{contains_cases, contains_first, contains_later}

module _ {A : Type 0} (name : List ℕ) where
  abbrev found : List (List ℕ × A) → Option A
  found = lookup (is_at (slice_cmp nat_cmp name))

  abbrev names : List (List ℕ × A) → List (List ℕ)
  names = map (λ e. e.0)

  -- where it is found, it is one of the names
  among_by : (e : List ℕ × A) (es : List (List ℕ × A)) → (is_some (found es) ≡ true → Contains (names es) name)
      → (o : Ordering) → slice_cmp nat_cmp name e.0 ≡ o → is_some (cond (is_eq o) (Some e.1) (found es)) ≡ true → Contains (names (e ∷ es)) name
  among_by e es rest Equal is some = subst (λ n. Contains (n ∷ names es) name) (exact_bytes name e.0 is) (contains_first name (names es))
  among_by e es rest Less is some = contains_later e.0 (names es) name (rest some)
  among_by e es rest Greater is some = contains_later e.0 (names es) name (rest some)

  among : (es : List (List ℕ × A)) → is_some (found es) ≡ true → Contains (names es) name
  among [] some = absurd (cc some)
  among (e ∷ es) some = among_by e es (among es) (slice_cmp nat_cmp name e.0) refl some

  -- and the other way round
  not_here : (e : List ℕ × A) (es : List (List ℕ × A)) → is_eq (slice_cmp nat_cmp name e.0) ≡ false
      → Contains (names (e ∷ es)) name → Contains (names es) name
  not_here e es other inside = elim (contains_cases e.0 (names es) name inside) [
    | inl one ↦
        let here : is_eq (slice_cmp nat_cmp name e.0) ≡ true = ap (λ n. is_eq (slice_cmp nat_cmp name n)) one ∙ ap is_eq (tied_itself nat_list_cmp_total name) in
        let clash : false ≡ true = sym other ∙ here in cc clash
    | inr later ↦ later
  ]

  there : (es : List (List ℕ × A)) → Contains (names es) name → is_some (found es) ≡ true
  there [] inside = absurd (omega (arith, inside.1))
  there (e ∷ es) inside = elim (cases_Bool (is_eq (slice_cmp nat_cmp name e.0))) [
    | inl here ↦ rw here refl
    | inr other ↦ rw other (there es (not_here e es other inside))
  ]

  pub found_among : (es : List (List ℕ × A)) → (is_some (found es) ≡ true) ↔ Contains (names es) name
  found_among es = (among es, there es)
