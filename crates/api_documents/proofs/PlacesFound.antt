-- What stands at the places that an index has of a path: the listed endpoints of the path.
use Rattle.std.proofs.Common.{◌≡◌, ℕ, ◌+◌, ◌<◌, get_or, take, drop, Bool, true, false, cond, List, [], ◌∷◌, ◌++◌}
use Rattle.std.proofs.Common.{length, map, Some, refl, sym, ap, subst, ◌∙◌, append_assoc, length-append, inl, inr}
use Rattle.std.proofs.Common.{arith}
use Rattle.std.specs.Prelude.{◌&&◌, bytes_eq, find}
use Rattle.std.specs.List.{list_any, slice_get}
use Rattle.std.proofs.Math.Bool.{or-false}
use Rattle.std.proofs.lemmas.Bool.{cases_Bool}
use Rattle.std.specs.BTreeSet.{insert_key}
use Rattle.std.proofs.lemmas.List.{drop_more, length-map, length-take-le, map-append, take_more}
use Rattle.std.proofs.lemmas.Slice.Eq.{bytes_eq-Decides}
use Rattle.request_words.proofs.CallerLemmas.{same_test}
use Rattle.semver.specs.Parse.{Parts}
use Rattle.path_templates.specs.Places.{IsIndexOf, first_at, places_at, places_from, with_place}
use Rattle.path_templates.proofs.CallerLemmas.{index-keyless, index-push}
use Rattle.path_templates.specs.declared.place_index.PlaceIndex.{PlaceIndex}
use Rattle.api_declarations.specs.Values.{DeclarationValue}
use Rattle.api_declarations.specs.Serving.{is_listed}
use Rattle.api_documents.specs.Listed.{endpoint_of, listed, path_of}
use Rattle.api_documents.specs.Ordered.{text_order, with_texts}
use Rattle.api_documents.specs.Places.{has_method, path_keys}

-- two texts are the same in either order
pub swapped_test : (a b : List ℕ) → bytes_eq a b ≡ bytes_eq b a
swapped_test a b =
    same_test _ _ (a ≡ b) (bytes_eq-Decides a b).0 (bytes_eq-Decides a b).1 (λ h. sym ((bytes_eq-Decides b a).0 h))
    (λ e. (bytes_eq-Decides b a).1 (sym e))

-- the thing behind a front
slice_get-front : {A : Type 0} (front : List A) (x : A) (rest : List A)
    → slice_get (front ++ x ∷ rest) (length front) ≡ Some x
slice_get-front [] x rest = refl
slice_get-front (y ∷ front) x rest = slice_get-front front x rest

-- the first thing at the places of a key is the first that has the key
module _ {A : Type 0} (keys : A → List (List ℕ)) (holds : A → Bool) (q : List ℕ) where
  abbrev has_key : A → Bool
  has_key x = list_any (λ key. bytes_eq key q) (keys x) && holds x

  found_behind : (all front es : List A) → all ≡ front ++ es
      → first_at holds all (places_from (length front) q (map keys es)) ≡ find has_key es
  found_behind all front [] is = refl
  found_behind all front (e ∷ es) is =
      let next = found_behind all (front ++ e ∷ []) es (is ∙ sym (append_assoc front (e ∷ []) es)) in
      let rest : first_at holds all (places_from (length front + 1) q (map keys es)) ≡ find has_key es =
      subst (λ (n : ℕ). first_at holds all (places_from n q (map keys es)) ≡ find has_key es)
      (length-append front (e ∷ [])) next in
      let here : slice_get all (length front) ≡ Some e =
      ap (λ (xs : List A). slice_get xs (length front)) is ∙ slice_get-front front e es in
      elim (cases_Bool (list_any (λ key. bytes_eq key q) (keys e))) [
        | inl keyed ↦ rw (keyed, here, rest) refl
        | inr other ↦ rw other rest
      ]

  pub found_by_key : (all : List A) → first_at holds all (places_from 0 q (map keys all)) ≡ find has_key all
  found_by_key all = found_behind all [] all refl

-- the first of a path and a method that is listed is the first among the listed ones
module _ (version : Parts) (path method : List ℕ) where
  pub listed_found : (ds : List DeclarationValue)
      → find (λ d. list_any (λ key. bytes_eq key path) (path_keys version d) && has_method method d) ds
      ≡ endpoint_of (listed version ds) path method
  listed_found [] = refl
  listed_found (d ∷ ds) = by_test (is_listed version d) (listed_found ds)
    where
      by_test : (b : Bool)
          → find (λ d. list_any (λ key. bytes_eq key path) (path_keys version d) && has_method method d) ds
          ≡ endpoint_of (listed version ds) path method
          → cond (list_any (λ key. bytes_eq key path) (cond b (path_of d ∷ []) []) && has_method method d) (Some d)
          (find (λ d. list_any (λ key. bytes_eq key path) (path_keys version d) && has_method method d) ds)
          ≡ endpoint_of (cond b (d ∷ listed version ds) (listed version ds)) path method
      by_test true rest = rw (or-false (bytes_eq (path_of d) path), rest) refl
      by_test false rest = rest

  -- the endpoint of a method among those at the places of a path
  pub found_at : (ds : List DeclarationValue) (index : PlaceIndex) → IsIndexOf (map (path_keys version) ds) index
      → first_at (has_method method) ds (places_at index path) ≡ endpoint_of (listed version ds) path method
  found_at ds index is =
      ap (first_at (has_method method) ds) (is path) ∙ found_by_key (path_keys version) (has_method method) path ds
      ∙ listed_found ds

-- ---- an index of one endpoint more

module _ (version : Parts) (ds : List DeclarationValue) (place : ℕ) (inside : place < length ds) (d : DeclarationValue)
    (at : d ≡ get_or ds place d) where
  abbrev keys : List DeclarationValue → List (List (List ℕ))
  keys = map (path_keys version)

  -- the keys of those so far and of this one
  one_more : keys (take (place + 1) ds) ≡ keys (take place ds) ++ path_keys version d ∷ []
  one_more =
      ap keys (take_more ds place d inside ∙ ap (λ (last : DeclarationValue). take place ds ++ last ∷ []) (sym at))
      ∙ map-append (path_keys version) (take place ds) (d ∷ [])

  so_many : length (keys (take place ds)) ≡ place
  so_many = simp length-map (length-take-le place ds (omega (arith, inside)))

  module _ (old : PlaceIndex) (is : IsIndexOf (keys (take place ds)) old) where
    pub index_kept : is_listed version d ≡ false → IsIndexOf (keys (take (place + 1) ds)) old
    index_kept hidden =
        let none : path_keys version d ≡ [] = rw hidden refl in
        subst (λ (things : List (List (List ℕ))). IsIndexOf things old)
        (sym (one_more ∙ ap (λ (own : List (List ℕ)). keys (take place ds) ++ own ∷ []) none))
        (index-keyless (keys (take place ds)) old is)

    pub index_added : (new : PlaceIndex)
        → ((q : List ℕ) → places_at new q ≡ with_place (places_at old) (path_of d) place q) → is_listed version d ≡ true
        → IsIndexOf (keys (take (place + 1) ds)) new
    index_added new added shown =
        let one : path_keys version d ≡ path_of d ∷ [] = rw shown refl in
        subst (λ (things : List (List (List ℕ))). IsIndexOf things new)
        (sym (one_more ∙ ap (λ (own : List (List ℕ)). keys (take place ds) ++ own ∷ []) one))
        (index-push (keys (take place ds)) (path_of d) old new
        (subst (λ (n : ℕ). (q : List ℕ) → places_at new q ≡ with_place (places_at old) (path_of d) n q)
        (sym so_many) added) is)

  -- ---- the paths of those that are left

  abbrev paths_with : List (List ℕ) → List DeclarationValue → List (List ℕ)
  paths_with texts es = with_texts texts (map path_of (listed version es))

  left : drop place ds ≡ d ∷ drop (place + 1) ds
  left = drop_more ds place d inside ∙ ap (λ (first : DeclarationValue). first ∷ drop (place + 1) ds) (sym at)

  pub paths_kept : (texts : List (List ℕ)) → is_listed version d ≡ false
      → paths_with texts (drop place ds) ≡ paths_with texts (drop (place + 1) ds)
  paths_kept texts hidden = ap (paths_with texts) left ∙ rw hidden refl

  pub paths_added : (texts : List (List ℕ)) → is_listed version d ≡ true
      → paths_with texts (drop place ds) ≡ paths_with (insert_key text_order texts (path_of d)) (drop (place + 1) ds)
  paths_added texts shown = ap (paths_with texts) left ∙ rw shown refl
