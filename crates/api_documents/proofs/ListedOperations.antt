-- The operations of a document, at each path and method.
use Rattle.std.proofs.Common.{◌≡◌, ℕ, List, [], ◌∷◌, Bool, true, false, ◌&&◌, ◌||◌, cond, Option, Some, None}
use Rattle.std.proofs.Common.{option_map, option_and_then, bytes_eq, codes, map, refl, sym, ◌∙◌, ap, subst}
use Rattle.std.specs.Prelude.{All, IsSome}
use Rattle.std.specs.BTreeMap.{is_at}
use Rattle.std.proofs.lemmas.Bool.{true≢false}
use Rattle.std.proofs.lemmas.List.Elements.{All-head, All-tail}
use Rattle.std.proofs.lemmas.Map.Text.{is_eq-slice_cmp}
use Rattle.std.proofs.lemmas.Slice.Eq.{bytes_eq-Decides}
use Rattle.openapi_values.specs.declared.info.Info.{Info}
use Rattle.openapi_values.specs.declared.operation.Operation.{Operation}
use Rattle.openapi_values.specs.Admits.{method_member}
use Rattle.openapi_values.specs.Find.{value_at, method_of, operation_in}
use Rattle.api_declarations.specs.Values.{DeclarationValue}
use Rattle.api_documents.specs.Accepted.{HasListedMethod}
use Rattle.api_documents.specs.Documents.{document_listing, errors_of}
use Rattle.api_documents.specs.ErrorNames.{NamedErrorValue}
use Rattle.api_documents.specs.Listed.{endpoint_of, path_of, paths_in_order}
use Rattle.api_documents.specs.Operations.{operation_at, operation_of, path_item_of}
use Rattle.api_documents.specs.Ordered.{is_among, text_order}
use Rattle.api_documents.specs.Tags.{Configured}
use Rattle.api_documents.proofs.Among.{among_texts}
use Rattle.api_documents.proofs.PlacesFound.{swapped_test}

-- ---- at what is no path nothing is served

module _ (path method : List ℕ) where
  same_path : (d : DeclarationValue) → is_at (text_order path) (path_of d) ≡ bytes_eq (path_of d) path
  same_path d = is_eq-slice_cmp path (path_of d) ∙ swapped_test path (path_of d)

  absent_by : (d : DeclarationValue) (rest b c : Bool) (o : Option DeclarationValue) → (b || rest) ≡ false
      → (rest ≡ false → o ≡ None) → cond (b && c) (Some d) o ≡ None
  absent_by d rest true c o absent later = absurd (true≢false absent)
  absent_by d rest false c o absent later = later absent

  not_served : (ds : List DeclarationValue) → is_among path (map path_of ds) ≡ false → endpoint_of ds path method ≡ None
  not_served [] absent = refl
  not_served (d ∷ ds) absent =
      absent_by d (is_among path (map path_of ds)) (bytes_eq (path_of d) path) (bytes_eq d.method method)
      (endpoint_of ds path method)
      (sym (ap (λ (b : Bool). b || is_among path (map path_of ds)) (same_path d)) ∙ absent) (not_served ds)

-- ---- paths and their items

module _ {X : Type 0} (item : List ℕ → X) (path : List ℕ) where
  item_by : (b : Bool) (text : List ℕ) (o : Option (List ℕ × X)) (rest : Bool) → bytes_eq path text ≡ b
      → option_map (λ pair. pair.1) o ≡ cond rest (Some (item path)) None
      → option_map (λ pair. pair.1) (cond b (Some (text, item text)) o) ≡ cond (b || rest) (Some (item path)) None
  item_by true text o rest e h = ap (λ (t : List ℕ). Some (item t)) (sym ((bytes_eq-Decides path text).0 e))
  item_by false text o rest e h = h

  item_found : (texts : List (List ℕ))
      → value_at path (map (λ text. (text, item text)) texts) ≡ cond (is_among path texts) (Some (item path)) None
  item_found [] = refl
  item_found (text ∷ texts) =
      rw (is_eq-slice_cmp path text) (item_by (bytes_eq path text) text _ (is_among path texts) refl (item_found texts))

-- ---- methods

module _ (named : List NamedErrorValue) where
  unlisted_by : (d : DeclarationValue) (method : List ℕ) (b c : Bool) (o : Option DeclarationValue)
      → bytes_eq d.method method ≡ c → HasListedMethod d → method_member method ≡ None → o ≡ None
      → cond (b && c) (Some d) o ≡ None
  unlisted_by d method false c o same known none later = later
  unlisted_by d method true false o same known none later = later
  unlisted_by d method true true o same known none later =
      let is : d.method ≡ method = (bytes_eq-Decides d.method method).0 same in
      let none_is_some : false ≡ true = subst IsSome (ap method_member is ∙ none) known in absurd (cc none_is_some)

  unlisted : (ds : List DeclarationValue) (path method : List ℕ) → All HasListedMethod ds → method_member method ≡ None
      → endpoint_of ds path method ≡ None
  unlisted [] path method known none = refl
  unlisted (d ∷ ds) path method known none =
      unlisted_by d method (bytes_eq (path_of d) path) (bytes_eq d.method method) (endpoint_of ds path method) refl
      (All-head HasListedMethod d ds known) none (unlisted ds path method (All-tail HasListedMethod d ds known) none)

  -- one method of the eight, and the others
  method_by : (ds : List DeclarationValue) (path name method : List ℕ) (rest : Option Operation) (b : Bool)
      → bytes_eq name method ≡ b
      → (b ≡ false → rest ≡ operation_at named ds path method)
      → cond b (operation_at named ds path name) rest ≡ operation_at named ds path method
  method_by ds path name method rest true e later = ap (operation_at named ds path) ((bytes_eq-Decides name method).0 e)
  method_by ds path name method rest false e later = later refl

  method_listed : (ds : List DeclarationValue) (path method : List ℕ) → All HasListedMethod ds
      → method_of method (path_item_of named ds path) ≡ operation_at named ds path method
  method_listed ds path method known =
      method_by ds path (codes "GET") method _ (bytes_eq (codes "GET") method) refl (λ no_get.
      method_by ds path (codes "PUT") method _ (bytes_eq (codes "PUT") method) refl (λ no_put.
      method_by ds path (codes "POST") method _ (bytes_eq (codes "POST") method) refl (λ no_post.
      method_by ds path (codes "DELETE") method _ (bytes_eq (codes "DELETE") method) refl (λ no_delete.
      method_by ds path (codes "OPTIONS") method _ (bytes_eq (codes "OPTIONS") method) refl (λ no_options.
      method_by ds path (codes "HEAD") method _ (bytes_eq (codes "HEAD") method) refl (λ no_head.
      method_by ds path (codes "PATCH") method _ (bytes_eq (codes "PATCH") method) refl (λ no_patch.
      method_by ds path (codes "TRACE") method _ (bytes_eq (codes "TRACE") method) refl (λ no_trace.
      let none : method_member method ≡ None =
      rw (no_get, no_put, no_post, no_delete, no_options, no_head, no_patch, no_trace) refl in
      sym (ap (option_map (operation_of named)) (unlisted ds path method known none))))))))))

  listed_by : (ds : List DeclarationValue) (path method : List ℕ) (b : Bool) → is_among path (paths_in_order ds) ≡ b
      → All HasListedMethod ds
      → option_and_then (method_of method) (cond b (Some (path_item_of named ds path)) None)
      ≡ operation_at named ds path method
  listed_by ds path method true e known = method_listed ds path method known
  listed_by ds path method false e known =
      sym (ap (option_map (operation_of named))
      (not_served path method ds (sym (among_texts path (map path_of ds) []) ∙ e)))

-- the operation at a path and a method is that of the endpoint that is served there
pub operation_listed : (ds : List DeclarationValue) (configured : Configured) (info : Info) (path method : List ℕ)
    → All HasListedMethod ds
    → operation_in (document_listing ds configured info) path method ≡ operation_at (errors_of ds) ds path method
operation_listed ds configured info path method known =
    ap (option_and_then (method_of method)) (item_found (path_item_of (errors_of ds) ds) path (paths_in_order ds))
    ∙ listed_by (errors_of ds) ds path method (is_among path (paths_in_order ds)) refl known
