-- A document lists exactly the endpoints that are visible and whose ranges hold its version, each once.
use Rattle.std.proofs.Common.{◌≡◌, ◌⊎◌, ℕ, Bool, true, false, cond, List, [], ◌∷◌, map, Option, Some, None, option_map}
use Rattle.std.proofs.Common.{bytes_eq, refl, sym, ap, subst, ◌∙◌, inl, inr, arith}
use Rattle.std.specs.Prelude.{Contains, IsSome}
use Rattle.std.proofs.lemmas.Bool.{and_from, and_parts}
use Rattle.std.proofs.lemmas.Slice.Eq.{bytes_eq-Decides}
use Rattle.schema_values.specs.Sound.{AreDistinct}
use Rattle.schema_values.proofs.CallerLemmas.{AreDistinct-sorted, contains_cases}
use Rattle.openapi_values.specs.declared.info.Info.{Info}
use Rattle.openapi_values.specs.declared.operation.Operation.{Operation}
use Rattle.openapi_values.specs.Find.{operation_in}
use Rattle.openapi_values.specs.Operation.{operation_json}
use Rattle.openapi_values.specs.SoundParts.{names_of_map}
use Rattle.openapi_values.proofs.CallerLemmas.{operation-stands}
use Rattle.semver.specs.Parse.{Parts}
use Rattle.api_declarations.specs.Serving.{is_listed}
use Rattle.api_declarations.specs.Values.{DeclarationValue}
use Rattle.api_documents.specs.Accepted.{AreApart, MayBeListed}
use Rattle.api_documents.specs.Documents.{document_json_of, document_of, errors_of}
use Rattle.api_documents.specs.Listed.{endpoint_of, listed, path_of, paths_in_order, stands_at}
use Rattle.api_documents.specs.Lists.{IsListed, Lists, ListsWritten}
use Rattle.api_documents.specs.Operations.{operation_of, path_item_of}
use Rattle.api_documents.specs.Tags.{Configured}
use Rattle.api_documents.proofs.Chosen.{chosen, first_pair, found, kept, later_pairs}
use Rattle.api_declarations.proofs.CallerLemmas.{held}
use Rattle.api_documents.proofs.ListedOperations.{operation_listed}
use Rattle.api_documents.proofs.OrderedNames.{texts_ascend}

abbrev Apart : DeclarationValue → DeclarationValue → Type 0
Apart d other = path_of d ≡ path_of other → d.method ≡ other.method → ⊥

stands_itself : (d : DeclarationValue) → stands_at (path_of d) d.method d ≡ true
stands_itself d =
    and_from _ _ ((bytes_eq-Decides (path_of d) (path_of d)).1 refl) ((bytes_eq-Decides d.method d.method).1 refl)

-- where no two have a path and a method in common, each is the one of its own
pub found_itself : (ds : List DeclarationValue) → AreApart ds → (d : DeclarationValue) → Contains ds d
    → endpoint_of ds (path_of d) d.method ≡ Some d
found_itself [] apart d c = absurd (omega (arith, c.1))
found_itself (other ∷ ds) apart d c =
    by_test (stands_at (path_of d) d.method other) refl (contains_cases other ds d c)
    (found_itself ds (later_pairs Apart other ds apart) d)
  where
    by_test : (b : Bool) → stands_at (path_of d) d.method other ≡ b → (other ≡ d) ⊎ Contains ds d
        → (Contains ds d → endpoint_of ds (path_of d) d.method ≡ Some d)
        → cond b (Some other) (endpoint_of ds (path_of d) d.method) ≡ Some d
    by_test true e (inl same) rest = ap Some same
    by_test true e (inr later) rest =
        let both = and_parts (bytes_eq (path_of other) (path_of d)) (bytes_eq other.method d.method) e in
        absurd (first_pair Apart other ds apart d later ((bytes_eq-Decides (path_of other) (path_of d)).0 both.0)
        ((bytes_eq-Decides other.method d.method).0 both.1))
    by_test false e (inl same) rest = let here : stands_at (path_of d) d.method other ≡ true =
        subst (λ (x : DeclarationValue). stands_at (path_of d) d.method x ≡ true) (sym same)
        (stands_itself d) in absurd (cc)
    by_test false e (inr later) rest = rest later

pub names_kept : {X : Type 0} (item : List ℕ → X) (names : List (List ℕ))
    → names_of_map (map (λ name. (name, item name)) names) ≡ names
names_kept item [] = refl
names_kept item (name ∷ names) = ap (λ (rest : List (List ℕ)). name ∷ rest) (names_kept item names)

module _ (version : Parts) (ds : List DeclarationValue) (configured : Configured) (info : Info)
    (may : MayBeListed (listed version ds)) where
  as_shown : (d : DeclarationValue) → IsListed version ds d → Contains (listed version ds) d
  as_shown d is =
      kept (is_listed version) ds d is.declared (and_from _ _ is.visible ((held d.versions version).1 is.held))

  as_listed : (path method : List ℕ) (d : DeclarationValue) → endpoint_of (listed version ds) path method ≡ Some d
      → (d : DeclarationValue) × IsListed version ds d × (path_of d ≡ path) × (d.method ≡ method)
  as_listed path method d is =
      let there = found (stands_at path method) (listed version ds) d is in
      let among = chosen (is_listed version) ds d there.0 in
      let both = and_parts d.visible _ among.1 in
      let at = and_parts (bytes_eq (path_of d) path) (bytes_eq d.method method) there.1 in (
        d,
        record { declared = among.0; visible = both.0; held = (held d.versions version).0 both.1 },
        (bytes_eq-Decides (path_of d) path).0 at.0,
        (bytes_eq-Decides d.method method).0 at.1,
      )

  pub lists_endpoints : Lists (errors_of (listed version ds)) (document_of ds configured info version) version ds
  lists_endpoints = record {
    each = λ d is.
        operation_listed (listed version ds) configured info (path_of d) d.method may.methods
        ∙ ap (option_map (operation_of (errors_of (listed version ds))))
        (found_itself (listed version ds) may.apart d (as_shown d is));
    only = λ path method some. by_found path method (endpoint_of (listed version ds) path method) refl
        (subst IsSome (operation_listed (listed version ds) configured info path method may.methods) some);
    once = subst AreDistinct
        (sym (names_kept (path_item_of (errors_of (listed version ds)) (listed version ds))
        (paths_in_order (listed version ds))))
        (AreDistinct-sorted (paths_in_order (listed version ds)) (texts_ascend (map path_of (listed version ds))));
  }
    where
      by_found : (path method : List ℕ) (o : Option DeclarationValue) → endpoint_of (listed version ds) path method ≡ o
          → IsSome (option_map (operation_of (errors_of (listed version ds))) o)
          → (d : DeclarationValue) × IsListed version ds d × (path_of d ≡ path) × (d.method ≡ method)
      by_found path method None is some = absurd (cc some)
      by_found path method (Some d) is some = as_listed path method d is

  was_some : (o : Option Operation) → IsSome (option_map operation_json o) → IsSome o
  was_some None some = absurd (cc some)
  was_some (Some operation) some = refl

  pub lists_written
      : ListsWritten (errors_of (listed version ds)) (document_json_of ds configured info version) version ds
  lists_written = record {
    each = λ d is.
        operation-stands (document_of ds configured info version) (path_of d) d.method
        ∙ ap (option_map operation_json) (lists_endpoints.each d is);
    only = λ path method some.
        lists_endpoints.only path method
        (was_some (operation_in (document_of ds configured info version) path method)
        (subst IsSome (operation-stands (document_of ds configured info version) path method) some));
  }
