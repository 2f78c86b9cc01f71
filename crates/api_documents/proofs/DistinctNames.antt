-- Errors are named apart.
use Rattle.std.proofs.Common.{◌≡◌, ℕ, suc, ◌+◌, ◌<◌, ◌≤◌, ◌^◌, Bool, true, false, ◌||◌, cond, List, [], ◌∷◌, ◌++◌}
use Rattle.std.proofs.Common.{length, fold, is_some, refl, sym, ◌∙◌, subst, arith}
use Rattle.std.specs.Prelude.{bytes_eq}
use Rattle.std.proofs.lemmas.Bool.{true≢false}
use Rattle.std.proofs.lemmas.List.{length-append, length-map, map-append}
use Rattle.std.proofs.lemmas.Slice.Eq.{bytes_eq-Decides}
use Rattle.schema_values.specs.Sound.{AreDistinct}
use Rattle.schema_values.proofs.CallerLemmas.{all-push}
use Rattle.api_documents.specs.ErrorNames.{NamedErrorValue, TabledError, free_name, given_names, is_taken, named_errors}
use Rattle.api_documents.specs.ErrorNames.{newly_named, shared_by, with_error}
use Rattle.api_documents.proofs.FreeNames.{free_found}

-- names that differ, and one that is free
pushed : (names : List (List ℕ)) (name : List ℕ) → AreDistinct names → is_taken names name ≡ false
    → AreDistinct (names ++ name ∷ [])
pushed [] name distinct free = (tt, tt)
pushed (first ∷ names) name distinct free =
    by_test (bytes_eq name first) refl free (pushed names name distinct.1)
  where
    by_test : (b : Bool) → bytes_eq name first ≡ b → (b || is_taken names name) ≡ false
        → (is_taken names name ≡ false → AreDistinct (names ++ name ∷ []))
        → AreDistinct (first ∷ (names ++ name ∷ []))
    by_test true e free later = absurd (true≢false free)
    by_test false e free later = (
      all-push (λ other. first ≡ other → ⊥) names name distinct.0
          (λ same. true≢false (sym ((bytes_eq-Decides name first).1 (sym same)) ∙ e)),
      later free,
    )

distinct_with : (named : List NamedErrorValue) (e : TabledError) → length named + 2 < 10 ^ 64
    → AreDistinct (given_names named) → AreDistinct (given_names (with_error named e))
distinct_with named e small distinct = by_test (is_some (shared_by e.error named))
  where
    few : length (given_names named) + 2 < 10 ^ 64
    few = omega (arith, small, length-map named (λ (n : NamedErrorValue). n.name))

    by_test : (b : Bool) → AreDistinct (given_names (cond b named (named ++ newly_named named e ∷ [])))
    by_test true = distinct
    by_test false =
        subst AreDistinct (sym (map-append (λ (n : NamedErrorValue). n.name) named (newly_named named e ∷ [])))
        (pushed (given_names named) (free_name (given_names named) e.error.name) distinct
        (free_found (given_names named) e.error.name few))

length_with : (named : List NamedErrorValue) (e : TabledError) → length (with_error named e) ≤ length named + 1
length_with named e = by_test (is_some (shared_by e.error named))
  where
    by_test : (b : Bool) → length (cond b named (named ++ newly_named named e ∷ [])) ≤ length named + 1
    by_test true = omega arith
    by_test false = omega (arith, length-append named (newly_named named e ∷ []))

distinct_from : (es : List TabledError) (named : List NamedErrorValue) → length named + length es + 2 < 10 ^ 64
    → AreDistinct (given_names named) → AreDistinct (given_names (fold with_error named es))
distinct_from [] named small distinct = distinct
distinct_from (e ∷ es) named small distinct =
    distinct_from es (with_error named e) (fewer (length named) (length (with_error named e)) (length es)
    (length_with named e) small)
    (distinct_with named e (few (length named) (length es) small) distinct)
  where
    fewer : (n m k : ℕ) → m ≤ n + 1 → n + suc k + 2 < 10 ^ 64 → m + k + 2 < 10 ^ 64
    fewer n m k le small = omega (arith, le, small)

    few : (n k : ℕ) → n + suc k + 2 < 10 ^ 64 → n + 2 < 10 ^ 64
    few n k small = omega (arith, small)

-- no name is given twice
pub names_differ : (es : List TabledError) → length es + 2 < 10 ^ 64 → AreDistinct (given_names (named_errors es))
names_differ es small = distinct_from es [] (from_none (length es) small) tt
  where
    from_none : (k : ℕ) → k + 2 < 10 ^ 64 → 0 + k + 2 < 10 ^ 64
    from_none k small = omega (arith, small)
