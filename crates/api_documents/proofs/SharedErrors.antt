-- Errors share a name exactly where they are equal, and each error that is listed has a name.
use Rattle.std.proofs.Common.{◌≡◌, ◌↔◌, Bool, true, false, cond, List, [], ◌∷◌, ◌++◌, fold, is_some, bytes_eq}
use Rattle.std.proofs.Common.{Option, Some, None, refl, sym, ◌∙◌, ap, subst, inl, inr, arith}
use Rattle.std.specs.Prelude.{Contains}
use Rattle.std.specs.Option.{option_or}
use Rattle.std.proofs.lemmas.Bool.{and_from, and_parts, true≢false}
use Rattle.std.proofs.lemmas.List.Elements.{Contains-push_cases}
use Rattle.std.proofs.lemmas.List.Folds.{find-append}
use Rattle.std.proofs.lemmas.Slice.Eq.{bytes_eq-Decides}
use Rattle.schema_values.proofs.CallerLemmas.{contains_cases}
use Rattle.handler_shapes.specs.declared.shape.ApiEndpointErrorResponse.{ApiEndpointErrorResponse}
use Rattle.api_documents.specs.ErrorNames.{NamedErrorValue, TabledError, newly_named, same_desc, same_error, shared_by}
use Rattle.api_documents.specs.ErrorNames.{named_errors, with_error}
use Rattle.api_documents.proofs.SameDescs.{same_desc-is}

-- two errors are the same exactly where they are equal
pub same_error-is : (a b : ApiEndpointErrorResponse) → (same_error a b ≡ true) ↔ (a ≡ b)
same_error-is a b = (equal, λ same. subst (λ (x : ApiEndpointErrorResponse). same_error a x ≡ true) same itself)
  where
    equal : same_error a b ≡ true → a ≡ b
    equal e =
        let both = and_parts (bytes_eq a.name b.name) (same_desc a.desc b.desc) e in
        let names : a.name ≡ b.name = (bytes_eq-Decides a.name b.name).0 both.0 in
        let descs : a.desc ≡ b.desc = (same_desc-is a.desc b.desc).0 both.1 in
        λ i. record { desc = descs i; name = names i }

    itself : same_error a a ≡ true
    itself = and_from _ _ ((bytes_eq-Decides a.name a.name).1 refl) ((same_desc-is a.desc a.desc).1 refl)

first_some : (o p : Option NamedErrorValue) → is_some o ≡ true → is_some (option_or o p) ≡ true
first_some None p h = absurd (true≢false (sym h))
first_some (Some n) p h = refl

second_some : (o : Option NamedErrorValue) (n : NamedErrorValue) → is_some (option_or o (Some n)) ≡ true
second_some None n = refl
second_some (Some m) n = refl

-- the error that is added has a name
own_shared : (named : List NamedErrorValue) (e : TabledError)
    → is_some (shared_by e.error (with_error named e)) ≡ true
own_shared named e = by_test (is_some (shared_by e.error named)) refl
  where
    by_test : (b : Bool) → is_some (shared_by e.error named) ≡ b
        → is_some (shared_by e.error (cond b named (named ++ newly_named named e ∷ []))) ≡ true
    by_test true h = h
    by_test false h =
        ap is_some (find-append (λ (n : NamedErrorValue). same_error e.error n.error) named (newly_named named e ∷ []))
        ∙ ap (λ (b : Bool). is_some (option_or (shared_by e.error named) (cond b (Some (newly_named named e)) None)))
        ((same_error-is e.error e.error).1 refl)
        ∙ second_some (shared_by e.error named) (newly_named named e)

module _ (x : ApiEndpointErrorResponse) where
  abbrev is_shared : List NamedErrorValue → Bool
  is_shared named = is_some (shared_by x named)

  -- what has a name keeps it
  stays_shared : (named : List NamedErrorValue) (e : TabledError) → is_shared named ≡ true
      → is_shared (with_error named e) ≡ true
  stays_shared named e h = by_test (is_some (shared_by e.error named))
    where
      by_test : (b : Bool) → is_shared (cond b named (named ++ newly_named named e ∷ [])) ≡ true
      by_test true = h
      by_test false =
          ap is_some (find-append (λ (n : NamedErrorValue). same_error x n.error) named (newly_named named e ∷ []))
          ∙ first_some (shared_by x named) _ h

  all_shared : (es : List TabledError) (named : List NamedErrorValue) → is_shared named ≡ true
      → is_shared (fold with_error named es) ≡ true
  all_shared [] named h = h
  all_shared (e ∷ es) named h = all_shared es (with_error named e) (stays_shared named e h)

  pub errors_shared : (es : List TabledError) (named : List NamedErrorValue) (e : TabledError) → Contains es e
      → e.error ≡ x → is_shared (fold with_error named es) ≡ true
  errors_shared [] named e c is = absurd (omega (arith, c.1))
  errors_shared (first ∷ es) named e c is = elim (contains_cases first es e c) [
    | inl same ↦
        let own : first.error ≡ x = ap (λ (t : TabledError). t.error) same ∙ is in
        all_shared es (with_error named first)
        (subst (λ (y : ApiEndpointErrorResponse). is_some (shared_by y (with_error named first)) ≡ true) own
        (own_shared named first))
    | inr later ↦ errors_shared es (with_error named first) e later is
  ]

-- ---- each error that has a name is the first that is equal to it

first_kept : (o p : Option NamedErrorValue) (n : NamedErrorValue) → o ≡ Some n → option_or o p ≡ Some n
first_kept None p n is = absurd (cc is)
first_kept (Some m) p n is = is

second_taken : (o p : Option NamedErrorValue) → is_some o ≡ false → option_or o p ≡ p
second_taken None p none = refl
second_taken (Some m) p none = absurd (true≢false none)

abbrev AreFirst : List NamedErrorValue → Type 0
AreFirst named = (n : NamedErrorValue) → Contains named n → shared_by n.error named ≡ Some n

first_with : (named : List NamedErrorValue) (e : TabledError) → AreFirst named → AreFirst (with_error named e)
first_with named e before = by_test (is_some (shared_by e.error named)) refl
  where
    by_test : (b : Bool) → is_some (shared_by e.error named) ≡ b
        → AreFirst (cond b named (named ++ newly_named named e ∷ []))
    by_test true h = before
    by_test false h = λ n c.
        find-append (λ (m : NamedErrorValue). same_error n.error m.error) named (newly_named named e ∷ [])
        ∙ elim (Contains-push_cases named (newly_named named e) n c) [
          | inl earlier ↦ first_kept (shared_by n.error named) _ n (before n earlier)
          | inr own ↦
              subst (λ (m : NamedErrorValue).
              option_or (shared_by m.error named) (shared_by m.error (newly_named named e ∷ [])) ≡ Some m) own
              (second_taken (shared_by e.error named) (shared_by e.error (newly_named named e ∷ [])) h
              ∙ ap (λ (b : Bool). cond b (Some (newly_named named e)) None) ((same_error-is e.error e.error).1 refl))
        ]

first_from : (es : List TabledError) (named : List NamedErrorValue) → AreFirst named
    → AreFirst (fold with_error named es)
first_from [] named before = before
first_from (e ∷ es) named before = first_from es (with_error named e) (first_with named e before)

pub shared_itself : (es : List TabledError) → AreFirst (named_errors es)
shared_itself es = first_from es [] (λ n c. absurd (omega (arith, c.1)))
