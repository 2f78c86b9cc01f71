-- The parts of a document by the places of the endpoints are those by their paths.
use Rattle.std.proofs.Common.{◌≡◌, ℕ, zero, suc, List, [], ◌∷◌, ◌++◌, Bool, true, false, cond, Option, Some, None}
use Rattle.std.proofs.Common.{option_map, map, codes, refl, ap, subst, ◌∙◌}
use Rattle.std.specs.Prelude.{All, filter_map}
use Rattle.std.specs.List.{cons_option, flat_map, slice_get}
use Rattle.std.proofs.lemmas.List.Elements.{All-head, All-tail}
use Rattle.openapi_values.specs.declared.operation.PathItem.{PathItem}
use Rattle.semver.specs.Parse.{Parts}
use Rattle.path_templates.specs.Places.{IsIndexOf, first_at, found_or, places_at}
use Rattle.path_templates.specs.declared.place_index.PlaceIndex.{PlaceIndex}
use Rattle.api_declarations.specs.Values.{DeclarationValue}
use Rattle.api_documents.specs.ErrorNames.{NamedErrorValue}
use Rattle.api_documents.specs.Listed.{at_path, endpoint_of, listed, method_names}
use Rattle.api_documents.specs.Operations.{operation_at, operation_of, path_item_of}
use Rattle.api_documents.specs.Places.{at_places, has_method, item_at, operation_by, path_keys}
use Rattle.api_documents.proofs.PlacesFound.{found_at}

-- ---- what is made of each thing alike

module _ {X Y : Type 0} where
  filter_map_same : (f g : X → Option Y) → ((x : X) → f x ≡ g x) → (xs : List X) → filter_map f xs ≡ filter_map g xs
  filter_map_same f g same [] = refl
  filter_map_same f g same (x ∷ xs) =
      ap (λ (o : Option Y). cons_option o (filter_map f xs)) (same x)
      ∙ ap (cons_option (g x)) (filter_map_same f g same xs)

  flat_map_same : (f g : X → List Y) → ((x : X) → f x ≡ g x) → (xs : List X) → flat_map f xs ≡ flat_map g xs
  flat_map_same f g same [] = refl
  flat_map_same f g same (x ∷ xs) =
      ap (λ (ys : List Y). ys ++ flat_map f xs) (same x) ∙ ap (λ (ys : List Y). g x ++ ys) (flat_map_same f g same xs)

  map_same : (f g : X → Y) → ((x : X) → f x ≡ g x) → (xs : List X) → map f xs ≡ map g xs
  map_same f g same [] = refl
  map_same f g same (x ∷ xs) =
      ap (λ (y : Y). y ∷ map f xs) (same x) ∙ ap (λ (ys : List Y). g x ∷ ys) (map_same f g same xs)

-- ---- the parts of a document

module _ (version : Parts) (ds : List DeclarationValue) (index : PlaceIndex)
    (is : IsIndexOf (map (path_keys version) ds) index) where
  same_at : (path : List ℕ) → at_places ds (places_at index path) ≡ at_path (listed version ds) path
  same_at path =
      filter_map_same (λ method. first_at (has_method method) ds (places_at index path))
      (endpoint_of (listed version ds) path) (λ method. found_at version path method ds index is) method_names

  -- the endpoints at some paths in their order
  pub same_order : (paths : List (List ℕ))
      → flat_map (λ path. at_places ds (places_at index path)) paths ≡ flat_map (at_path (listed version ds)) paths
  same_order = flat_map_same (λ path. at_places ds (places_at index path)) (at_path (listed version ds)) same_at

  module _ (named : List NamedErrorValue) where
    same_by : (path method : List ℕ)
        → operation_by named ds (places_at index path) method ≡ operation_at named (listed version ds) path method
    same_by path method = ap (option_map (operation_of named)) (found_at version path method ds index is)

    same_item : (path : List ℕ) → item_at named ds (places_at index path) ≡ path_item_of named (listed version ds) path
    same_item path = λ i. record {
      get = same_by path (codes "GET") i;
      put = same_by path (codes "PUT") i;
      post = same_by path (codes "POST") i;
      delete = same_by path (codes "DELETE") i;
      options = same_by path (codes "OPTIONS") i;
      head = same_by path (codes "HEAD") i;
      patch = same_by path (codes "PATCH") i;
      trace = same_by path (codes "TRACE") i;
    }

    abbrev pub by_places : List ℕ → List ℕ × PathItem
    by_places path = (path, item_at named ds (places_at index path))

    abbrev pub by_paths : List ℕ → List ℕ × PathItem
    by_paths path = (path, path_item_of named (listed version ds) path)

    -- the operations of some paths
    pub same_items : (paths : List (List ℕ)) → map by_places paths ≡ map by_paths paths
    same_items = map_same by_places by_paths (λ path. ap (λ (item : PathItem). (path, item)) (same_item path))

-- ---- what holds of all things holds of one that is found at a place

module _ {A : Type 0} (P : A → Type 0) (holds : A → Bool) (all : List A) (every : All P all) where
  got : (xs : List A) → All P xs → (place : ℕ) (x : A) → slice_get xs place ≡ Some x → P x
  got [] each place x at = absurd (cc at)
  got (y ∷ xs) each zero x at = let e : y ≡ x = cc at in subst P e (All-head P y xs each)
  got (y ∷ xs) each (suc place) x at = got xs (All-tail P y xs each) place x at

  pub first_passes : (places : List ℕ) (x : A) → first_at holds all places ≡ Some x → P x
  first_passes [] x is = absurd (cc is)
  first_passes (place ∷ places) x is = by_found (slice_get all place) refl is (first_passes places x)
    where
      by_test : (y : A) → slice_get all place ≡ Some y → (b : Bool)
          → cond b (Some y) (first_at holds all places) ≡ Some x → (first_at holds all places ≡ Some x → P x) → P x
      by_test y at true e rest = let same : y ≡ x = cc e in subst P same (got all every place y at)
      by_test y at false later rest = rest later

      by_found : (o : Option A) → slice_get all place ≡ o → found_or holds o (first_at holds all places) ≡ Some x
          → (first_at holds all places ≡ Some x → P x) → P x
      by_found None at later rest = rest later
      by_found (Some y) at here rest = by_test y at (holds y) here rest
