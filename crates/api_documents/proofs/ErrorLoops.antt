-- Errors that are added method by method.
use Rattle.std.proofs.Common.{◌≡◌, ℕ, ◌+◌, ◌<◌, List, [], ◌∷◌, length, map, drop, get_or, fold, Option, Some, None}
use Rattle.std.proofs.Common.{refl, sym, ◌∙◌, ap}
use Rattle.std.proofs.lemmas.List.{drop_more}
use Rattle.std.specs.List.{cons_option, filter_map}
use Rattle.api_declarations.specs.Values.{DeclarationValue}
use Rattle.api_documents.specs.ErrorNames.{NamedErrorValue, TabledError, listed_errors, tabled_error, with_error}

-- errors with those of the endpoints that are found by names
module _ (found : List ℕ → Option DeclarationValue) where
  abbrev added : List NamedErrorValue → List (List ℕ) → List NamedErrorValue
  added named names = fold with_error named (listed_errors (filter_map found names))

  one_by_one : (named : List NamedErrorValue) (o : Option TabledError) (es : List TabledError)
      → fold with_error named (cons_option o es) ≡ fold with_error (fold with_error named (cons_option o [])) es
  one_by_one named None es = refl
  one_by_one named (Some e) es = refl

  -- of things with names, one more; `none` is a thing that stands nowhere
  module _ {M : Type 0} (text : M → List ℕ) (items : List M) (i : ℕ) (none : M) (inside : i < length items)
      (named : List NamedErrorValue) where
    abbrev here : List ℕ
    here = text (get_or items i none)

    abbrev left : List (List ℕ)
    left = map text (drop (i + 1) items)

    first_left : added named (map text (drop i items))
        ≡ fold with_error named (listed_errors (cons_option (found here) (filter_map found left)))
    first_left = ap (λ some. added named (map text some)) (drop_more items i none inside)

    pub none_added : (new : List NamedErrorValue) → found here ≡ None → new ≡ named
        → added named (map text (drop i items)) ≡ added new left
    none_added new is same =
        first_left
        ∙ ap (λ o. fold with_error named (listed_errors (cons_option o (filter_map found left)))) is
        ∙ ap (λ some. added some left) (sym same)

    pub one_added : (d : DeclarationValue) (new : List NamedErrorValue) → found here ≡ Some d
        → new ≡ fold with_error named (listed_errors (d ∷ []))
        → added named (map text (drop i items)) ≡ added new left
    one_added d new is with_own =
        first_left
        ∙ ap (λ o. fold with_error named (listed_errors (cons_option o (filter_map found left)))) is
        ∙ one_by_one named (tabled_error d) (listed_errors (filter_map found left))
        ∙ ap (λ some. fold with_error some (listed_errors (filter_map found left))) (sym with_own)
