use Rattle.std.proofs.Common.{◌≡◌, ℕ, List, [], ◌∷◌, ◌++◌, fold, take, sym, ◌∙◌, ap, append-nil}
use Rattle.std.specs.List.{flat_map}
use Rattle.std.proofs.lemmas.Grind.{flat_map-append}
use Rattle.std.proofs.lemmas.List.{take_more}
use Rattle.std.proofs.lemmas.List.Elements.{filter_map-append}
use Rattle.std.proofs.lemmas.List.Sums.{fold-append}
use Rattle.path_templates.specs.Places.{places_at}
use Rattle.api_declarations.specs.Values.{DeclarationValue}
use Rattle.api_documents.specs.ErrorNames.{NamedErrorValue, listed_errors, tabled_error, with_error}
use Rattle.api_documents.specs.Places.{at_places}
use Rattle.api_documents.proofs.documents.named_errors.Goals as goal

-- the errors at some paths, and those at one path more
module _ (at : List ℕ → List DeclarationValue) where
  abbrev so_far : List (List ℕ) → List NamedErrorValue
  so_far paths = fold with_error [] (listed_errors (flat_map at paths))

  next_named : (paths : List (List ℕ)) (path : List ℕ)
      → so_far (paths ++ path ∷ []) ≡ fold with_error (so_far paths) (listed_errors (at path))
  next_named paths path =
      ap (λ (ds : List DeclarationValue). fold with_error [] (listed_errors ds))
      (flat_map-append at paths (path ∷ [])
      ∙ ap (λ (ds : List DeclarationValue). flat_map at paths ++ ds) (append-nil (at path)))
      ∙ ap (fold with_error []) (filter_map-append tabled_error (flat_map at paths) (at path))
      ∙ fold-append with_error [] (listed_errors (flat_map at paths)) (listed_errors (at path))

pub loop-path-preserved : goal.loop-path-preserved
loop-path-preserved c =
    let ds = c.args.declarations.now in
    let at : List ℕ → List DeclarationValue = λ path. at_places ds (places_at c.args.listed_paths.now.index path) in
    let paths = c.as_slice-path-items.result.now in
    let i = c.loop-path.path-index in
    let path = c.path-item.result in
    c.in_ok-add_errors.ensures
    ∙ ap (λ (places : List ℕ). fold with_error c.loop-path.named (listed_errors (at_places ds places)))
    c.at-places.ensures
    ∙ ap (λ (named : List NamedErrorValue). fold with_error named (listed_errors (at path))) c.loop-path.invariant
    ∙ sym (next_named at (take i paths) path)
    ∙ ap (so_far at)
    (sym (take_more paths i path c.loop-path-test.true
    ∙ ap (λ (last : List ℕ). take i paths ++ last ∷ []) (sym c.path-item.is)))
