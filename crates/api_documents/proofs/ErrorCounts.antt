-- No more errors are listed than eight for each endpoint, one for each method of its path.
use Rattle.std.proofs.Common.{ℕ, suc, ◌+◌, ◌≤◌, ◌*◌, List, [], ◌∷◌, length, map, Option, Some, None, arith}
use Rattle.std.specs.declared.cmp.Ordering.{Ordering}
use Rattle.std.specs.declared.cmp.Ordering.TheVariants.{Less, Equal, Greater}
use Rattle.std.specs.BTreeSet.{insert_key}
use Rattle.std.specs.List.{cons_option, filter_map, flat_map}
use Rattle.std.specs.Ordering.{match_ordering}
use Rattle.std.proofs.lemmas.List.{length-append, length-map}
use Rattle.api_declarations.specs.Values.{DeclarationValue}
use Rattle.api_documents.specs.ErrorNames.{listed_errors, tabled_error}
use Rattle.api_documents.specs.Listed.{at_path, endpoint_of, in_order, method_names, path_of, paths_in_order}
use Rattle.api_documents.specs.Ordered.{text_order, with_texts}

-- what is made of some things is no longer than they are
few_found : {X Y : Type 0} (h : X → Option Y) (xs : List X) → length (filter_map h xs) ≤ length xs
few_found h [] = omega arith
few_found h (x ∷ xs) = by_found (h x) (few_found h xs)
  where
    by_found : (o : Option _) → length (filter_map h xs) ≤ length xs
        → length (cons_option o (filter_map h xs)) ≤ suc (length xs)
    by_found None few = omega (arith, few)
    by_found (Some y) few = omega (arith, few)

-- nor are texts in order, each once
few_with : (names : List (List ℕ)) (name : List ℕ) → length (insert_key text_order names name) ≤ suc (length names)
few_with [] name = omega arith
few_with (first ∷ names) name = by_order (text_order name first) (few_with names name)
  where
    by_order : (o : Ordering) → length (insert_key text_order names name) ≤ suc (length names)
        → length (match_ordering o (name ∷ first ∷ names) (first ∷ names) (first ∷ insert_key text_order names name))
        ≤ suc (suc (length names))
    by_order Less few = omega arith
    by_order Equal few = omega arith
    by_order Greater few = omega (arith, few)

one_further : (a b c d : ℕ) → a ≤ b + c → b ≤ suc d → a ≤ d + suc c
one_further a b c d few next = omega (arith, few, next)

few_texts : (more names : List (List ℕ)) → length (with_texts names more) ≤ length names + length more
few_texts [] names = omega arith
few_texts (name ∷ more) names =
    one_further _ _ _ _ (few_texts more (insert_key text_order names name)) (few_with names name)

eight_further : (a b n : ℕ) → a ≤ 8 → b ≤ 8 * n → a + b ≤ 8 * suc n
eight_further a b n few rest = omega (arith, few, rest)

through : (errors endpoints paths all : ℕ) → errors ≤ endpoints → endpoints ≤ 8 * paths → paths ≤ all
    → errors ≤ 8 * all
through errors endpoints paths all few eight once = omega (arith, few, eight, once)

module _ (ds : List DeclarationValue) where
  eight_each : (paths : List (List ℕ)) → length (flat_map (at_path ds) paths) ≤ 8 * length paths
  eight_each [] = omega arith
  eight_each (path ∷ paths) =
      let here : length (at_path ds path) ≤ 8 = few_found (endpoint_of ds path) method_names in
      let all = eight_further (length (at_path ds path)) _ (length paths) here (eight_each paths) in
      omega (arith, length-append (at_path ds path) (flat_map (at_path ds) paths), all)

  pub few_errors : length (listed_errors (in_order ds)) ≤ 8 * length ds
  few_errors =
      let once : length (paths_in_order ds) ≤ length ds =
      omega (arith, few_texts (map path_of ds) [], length-map ds path_of) in
      through _ _ _ _ (few_found tabled_error (in_order ds)) (eight_each (paths_in_order ds)) once
