-- The test for an endpoint that serves a request decides whether it does; such an endpoint is found by its template.
use Rattle.std.specs.Prelude.{◌≡◌, ◌↔◌, ℕ, true, List, map, IsTrue, bytes_eq}
use Rattle.std.proofs.Common.{refl, subst}
use Rattle.std.specs.List.{list_any}
use Rattle.std.proofs.lemmas.Bool.{and_from, and_parts}
use Rattle.std.proofs.lemmas.Simd.{map-map}
use Rattle.std.proofs.lemmas.Slice.Eq.{bytes_eq-Decides}
use Rattle.semver.specs.Parse.{Parts}
use Rattle.path_templates.specs.Places.{IsIndexOf, first_at, places_at}
use Rattle.path_templates.specs.Templates.{trimmed}
use Rattle.path_templates.specs.declared.place_index.PlaceIndex.{PlaceIndex}
use Rattle.path_templates.proofs.CallerLemmas.{found_by_index}
use Rattle.api_declarations.specs.Keys.{template_keys}
use Rattle.api_declarations.specs.Serving.{Serves, endpoint_for, holds, serves}
use Rattle.api_declarations.specs.Values.{DeclarationValue}
use Rattle.api_declarations.proofs.Held.{held}

module _ (version : Parts) (method template : List ℕ) (d : DeclarationValue) where
  pub served : IsTrue (serves version method template d) ↔ Serves version method template d
  served = (
    λ e.
        let both = and_parts (bytes_eq d.method method) _ e in
        let rest = and_parts (bytes_eq (trimmed d.path) (trimmed template)) (holds d.versions version) both.1 in
        record {
          by_method = (bytes_eq-Decides d.method method).0 both.0;
          by_template = (bytes_eq-Decides (trimmed d.path) (trimmed template)).0 rest.0;
          at_version = (held d.versions version).0 rest.1;
        },
    λ s.
        and_from _ _ ((bytes_eq-Decides d.method method).1 s.by_method)
        (and_from _ _ ((bytes_eq-Decides (trimmed d.path) (trimmed template)).1 s.by_template)
        ((held d.versions version).1 s.at_version)),
  )

  -- what serves a template has it as key
  pub keyed : serves version method template d ≡ true
      → list_any (λ key. bytes_eq key (trimmed template)) (template_keys d) ≡ true
  keyed e =
      let both = and_parts (bytes_eq d.method method) _ e in
      rw (and_parts (bytes_eq (trimmed d.path) (trimmed template)) (holds d.versions version) both.1).0 refl

-- the first endpoint of a template at the places of an index is the first at all
pub found_indexed : {A : Type 0} (declared : A → DeclarationValue) (es : List A) (index : PlaceIndex)
    → IsIndexOf (map template_keys (map declared es)) index → (version : Parts) (method template : List ℕ)
    → first_at (λ e. serves version method template (declared e)) es (places_at index (trimmed template))
    ≡ endpoint_for declared version method template es
found_indexed declared es index is version method template =
    found_by_index (λ e. template_keys (declared e)) (λ e. serves version method template (declared e))
    (trimmed template) (λ e. keyed version method template (declared e)) es index
    (subst (λ (keys : List (List (List ℕ))). IsIndexOf keys index) (map-map template_keys declared es) is)
