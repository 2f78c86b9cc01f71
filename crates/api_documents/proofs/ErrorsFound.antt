-- The responses of errors in a document, by their names: each error that an endpoint lists has one, which is drawn as
-- under the endpoint's own table, and to which the endpoint's operation refers.
use Rattle.std.proofs.Common.{◌≡◌, ◌≢◌, ◌⊎◌, ℕ, ◌+◌, ◌*◌, ◌<◌, ◌≤◌, ◌^◌, Bool, true, false, cond, List, [], ◌∷◌}
use Rattle.std.proofs.Common.{length, map, option_map, is_some, bytes_eq, Option, Some, None, codes}
use Rattle.std.proofs.Common.{refl, sym, ◌∙◌, ap, subst, inl, inr, arith}
use Rattle.std.specs.Prelude.{Contains, IsSome, find}
use Rattle.std.specs.BTreeMap.{is_at}
use Rattle.std.proofs.lemmas.Bool.{cases_Bool, or_cases, or_left, or_right, true≢false}
use Rattle.std.proofs.lemmas.List.Elements.{All-contains}
use Rattle.std.proofs.lemmas.Slice.Eq.{bytes_eq-Decides}
use Rattle.schema_values.specs.declared.json_value.Json.{Json}
use Rattle.schema_values.specs.Sound.{AreDistinct}
use Rattle.schema_values.proofs.CallerLemmas.{contains_cases, contains_first, contains_later}
use Rattle.openapi_values.specs.declared.document.OpenApi.{OpenApi}
use Rattle.openapi_values.specs.declared.info.Info.{Info}
use Rattle.openapi_values.specs.declared.media.ResponseObject.{ResponseObject}
use Rattle.openapi_values.specs.Admits.{methods}
use Rattle.openapi_values.specs.Find.{response_in}
use Rattle.descriptors.specs.declared.table.Definition.{Definition}
use Rattle.typed_values.specs.Checks.{DescPasses}
use Rattle.typed_values.specs.SchemaTable.{schema_json_titled}
use Rattle.handler_shapes.specs.declared.shape.ApiEndpointErrorResponse.{ApiEndpointErrorResponse}
use Rattle.handler_shapes.specs.ShapeChecks.{ErrorPasses, ShapePasses}
use Rattle.api_declarations.specs.Values.{DeclarationValue}
use Rattle.api_documents.specs.Accepted.{DefinitionsAgree, HasListedMethod, MayBeListed, TablesAgree}
use Rattle.api_documents.specs.Bodies.{media}
use Rattle.api_documents.specs.Components.{error_entry, error_object}
use Rattle.api_documents.specs.Defines.{LeadsToError, RefersToError}
use Rattle.api_documents.specs.Documents.{document_listing, errors_of}
use Rattle.api_documents.specs.ErrorNames.{NamedErrorValue, given_names, listed_error, listed_errors, same_error}
use Rattle.api_documents.specs.ErrorNames.{shared_by, tabled_error, with_table}
use Rattle.api_documents.specs.Listed.{at_path, endpoint_of, in_order, method_names, path_of, paths_in_order}
use Rattle.api_documents.specs.Operations.{operation_of}
use Rattle.api_documents.specs.Ordered.{by_name, is_among, text_order}
use Rattle.api_documents.specs.Tags.{Configured}
use Rattle.api_documents.proofs.Among.{among_texts, at_itself, same_text}
use Rattle.api_documents.proofs.Chosen.{first_pair, found as chosen_by, later_pairs}
use Rattle.api_documents.proofs.Covered.{all_contained}
use Rattle.api_documents.proofs.DistinctNames.{names_differ}
use Rattle.api_documents.proofs.ErrorCounts.{few_errors}
use Rattle.api_documents.proofs.ErrorReferences.{refers_to}
use Rattle.api_documents.proofs.Joined.{each_mapped, in_filtered, in_joined}
use Rattle.api_documents.proofs.ListsEndpoints.{found_itself}
use Rattle.api_documents.proofs.NamedErrors.{each_error, own_error}
use Rattle.api_documents.proofs.SameSchemas.{shared_titled}
use Rattle.api_documents.proofs.SchemasFound.{found, found_all, value_found}
use Rattle.api_documents.proofs.SharedErrors.{errors_shared, same_error-is, shared_itself}

-- ---- each listed endpoint stands in the order of the operations

among_contained : (name : List ℕ) (names : List (List ℕ)) → is_among name names ≡ true → Contains names name
among_contained name [] h = absurd (true≢false (sym h))
among_contained name (first ∷ names) h =
    elim (or_cases (is_at (text_order name) first) (is_among name names) h) [
      | inl here ↦ subst (λ (x : List ℕ). Contains (first ∷ names) x) (sym (same_text name first here))
          (contains_first first names)
      | inr later ↦ contains_later first names name (among_contained name names later)
    ]

path_among : (ds : List DeclarationValue) (d : DeclarationValue) → Contains ds d
    → is_among (path_of d) (map path_of ds) ≡ true
path_among [] d c = absurd (omega (arith, c.1))
path_among (first ∷ ds) d c = elim (contains_cases first ds d c) [
  | inl same ↦ or_left _ _
      (ap (λ (x : DeclarationValue). is_at (text_order (path_of d)) (path_of x)) same ∙ at_itself (path_of d))
  | inr later ↦ or_right _ _ (path_among ds d later)
]

method_among : (pairs : List (List ℕ × List ℕ)) (method : List ℕ)
    → IsSome (option_map (λ pair. pair.1) (find (λ pair. bytes_eq pair.0 method) pairs))
    → Contains (map (λ pair. pair.0) pairs) method
method_among [] method some = absurd (cc some)
method_among (pair ∷ pairs) method some = by_test (bytes_eq pair.0 method) refl some (method_among pairs method)
  where
    names : List (List ℕ)
    names = map (λ pair. pair.0) pairs

    later : Option (List ℕ × List ℕ)
    later = find (λ pair. bytes_eq pair.0 method) pairs

    by_test : (b : Bool) → bytes_eq pair.0 method ≡ b → IsSome (option_map (λ pair. pair.1) (cond b (Some pair) later))
        → (IsSome (option_map (λ pair. pair.1) later) → Contains names method) → Contains (pair.0 ∷ names) method
    by_test true e some rest =
        subst (λ (x : List ℕ). Contains (pair.0 ∷ names) x) ((bytes_eq-Decides pair.0 method).0 e)
        (contains_first pair.0 names)
    by_test false e some rest = contains_later pair.0 names method (rest some)

ordered : (ds : List DeclarationValue) → MayBeListed ds → (d : DeclarationValue) → Contains ds d
    → Contains (in_order ds) d
ordered ds may d c =
    in_joined (at_path ds) d (paths_in_order ds) (path_of d)
    (among_contained (path_of d) (paths_in_order ds)
    (among_texts (path_of d) (map path_of ds) [] ∙ path_among ds d c))
    (in_filtered (endpoint_of ds (path_of d)) d method_names d.method
    (method_among methods d.method (All-contains HasListedMethod ds d may.methods c))
    (found_itself ds may.apart d c))

-- ---- the response of a name

other_name : (name other : List ℕ) → (other ≡ name → ⊥) → is_at (text_order name) other ≡ false
other_name name other differ = elim (cases_Bool (is_at (text_order name) other)) [
  | inl same ↦ absurd (differ (sym (same_text name other same)))
  | inr unlike ↦ unlike
]

entry_found : (named : List NamedErrorValue) (n : NamedErrorValue) → AreDistinct (given_names named)
    → Contains named n → found n.name (map error_entry named) ≡ Some (error_object n)
entry_found [] n distinct c = absurd (omega (arith, c.1))
entry_found (first ∷ named) n distinct c = elim (contains_cases first named n c) [
  | inl same ↦
      ap (λ (x : NamedErrorValue).
      cond (is_at (text_order n.name) x.name) (Some (error_object x)) (found n.name (map error_entry named))) same
      ∙ ap (λ (b : Bool). cond b (Some (error_object n)) (found n.name (map error_entry named))) (at_itself n.name)
  | inr later ↦
      let differ =
      each_mapped (λ other. first.name ≡ other → ⊥) (λ (x : NamedErrorValue). x.name) named n distinct.0 later in
      ap (λ (b : Bool). cond b (Some (error_object first)) (found n.name (map error_entry named)))
      (other_name n.name first.name differ)
      ∙ entry_found named n distinct.1 later
]

-- ---- the definitions of one name are the same in the tables of any two endpoints

abbrev Agree : DeclarationValue → DeclarationValue → Type 0
Agree d other = TablesAgree d.shape.table other.shape.table

agree_itself : (table : List Definition) → TablesAgree table table
agree_itself table name e f here there = cc (sym here ∙ there)

agree_back : (table other : List Definition) → TablesAgree table other → TablesAgree other table
agree_back table other agree name e f here there = sym (agree name f e there here)

any_agree : (ds : List DeclarationValue) → DefinitionsAgree ds → (d other : DeclarationValue) → Contains ds d
    → Contains ds other → Agree d other
any_agree [] agree d other c k = absurd (omega (arith, c.1))
any_agree (first ∷ ds) agree d other c k =
    by_places (contains_cases first ds d c) (contains_cases first ds other k)
    (any_agree ds (later_pairs Agree first ds agree) d other)
  where
    by_places : (first ≡ d) ⊎ Contains ds d → (first ≡ other) ⊎ Contains ds other
        → (Contains ds d → Contains ds other → Agree d other) → Agree d other
    by_places (inl here) (inl there) rest = subst (Agree d) (sym here ∙ there) (agree_itself d.shape.table)
    by_places (inl here) (inr later) rest =
        subst (λ (x : DeclarationValue). Agree x other) here (first_pair Agree first ds agree other later)
    by_places (inr later) (inl there) rest =
        agree_back other.shape.table d.shape.table
        (subst (λ (x : DeclarationValue). Agree x d) there (first_pair Agree first ds agree d later))
    by_places (inr one) (inr two) rest = rest one two

few : (a b : ℕ) → a ≤ 8 * b → b < 2 ^ 64 → a + 2 < 10 ^ 64
few a b le small = omega (arith, le, small)

-- ---- an operation leads to the response of its error

module _ (ds : List DeclarationValue) (configured : Configured) (info : Info) (may : MayBeListed ds)
    (small : length ds < 2 ^ 64) (d : DeclarationValue) (c : Contains ds d) (error : ApiEndpointErrorResponse)
    (is : listed_error d.shape ≡ Some error) where
  abbrev document : OpenApi
  document = document_listing ds configured info

  abbrev named : List NamedErrorValue
  named = errors_of ds

  distinct : AreDistinct (given_names named)
  distinct = names_differ (listed_errors (in_order ds)) (few _ _ (few_errors ds) small)

  passing : (other : DeclarationValue) → Contains ds other → ShapePasses other.shape
  passing other k = All-contains (λ (x : DeclarationValue). ShapePasses x.shape) ds other may.passing k

  right : (other : DeclarationValue) → Contains ds other → listed_error other.shape ≡ Some error
      → DescPasses other.shape.table error.desc
  right other k at =
      subst (ErrorPasses other.shape.table) (own_error other.shape error at) (passing other k).error

  -- what is equal to the error is drawn under its own table as under that of the endpoint
  abbrev DrawnAlike : List Definition → ApiEndpointErrorResponse → Type 0
  DrawnAlike table other = other ≡ error
      → schema_json_titled table error.name error.desc ≡ schema_json_titled d.shape.table error.name error.desc

  alike : (other : DeclarationValue) → Contains ds other → (e : ApiEndpointErrorResponse)
      → listed_error other.shape ≡ Some e → DrawnAlike other.shape.table e
  alike other k e at same =
      shared_titled other.shape.table d.shape.table (passing other k).table (passing d c).table
      (any_agree ds may.definitions other d k c) error.desc (right other k (at ∙ ap Some same)) (right d c is)
      error.name

  abbrev as_object : List ℕ → Json → ResponseObject
  as_object name json = record {
    description = Some name;
    headers = [];
    content = media (codes "application/json") json;
    reference = None;
  }

  own_object : (n : NamedErrorValue) → Contains named n → n.error ≡ error
      → error_object n ≡ error_object (record { name = n.name; table = d.shape.table; error = error })
  own_object n k same =
      ap (λ (x : ApiEndpointErrorResponse). error_object (record { name = n.name; table = n.table; error = x })) same
      ∙ ap (as_object n.name)
      (all_contained (λ (m : NamedErrorValue). DrawnAlike m.table m.error) named n (each_error DrawnAlike ds alike) k
      same)

  pub leads_to_error : LeadsToError document (operation_of named d) d.shape.table error
  leads_to_error =
      by_shared (shared_by error named) refl
      (errors_shared error (listed_errors (in_order ds)) [] (with_table d.shape.table error)
      (in_filtered tabled_error (with_table d.shape.table error) (in_order ds) d (ordered ds may d c)
      (ap (option_map (with_table d.shape.table)) is)) refl)
    where
      by_shared : (o : Option NamedErrorValue) → shared_by error named ≡ o → is_some o ≡ true
          → LeadsToError document (operation_of named d) d.shape.table error
      by_shared None f some = absurd (true≢false (sym some))
      by_shared (Some n) f some =
          let there = chosen_by (λ (m : NamedErrorValue). same_error error m.error) named n f in
          let same = sym ((same_error-is error n.error).0 there.1) in
          record {
            name = n.name;
            refers = refers_to named d error is n f;
            stands = value_found n.name (by_name (map error_entry named))
                ∙ found_all n.name (map error_entry named) []
                ∙ entry_found named n distinct there.0
                ∙ ap Some (own_object n there.0 same);
          }

-- ---- a response in a document is that of an error to which an operation refers

named_by : (name : List ℕ) (named : List NamedErrorValue) → IsSome (found name (map error_entry named))
    → (n : NamedErrorValue) × Contains named n × (n.name ≡ name)
named_by name [] some = absurd (cc some)
named_by name (first ∷ named) some = by_test (is_at (text_order name) first.name) refl some (named_by name named)
  where
    by_test : (b : Bool) → is_at (text_order name) first.name ≡ b
        → IsSome (cond b (Some (error_object first)) (found name (map error_entry named)))
        → (IsSome (found name (map error_entry named)) → (n : NamedErrorValue) × Contains named n × (n.name ≡ name))
        → (n : NamedErrorValue) × Contains (first ∷ named) n × (n.name ≡ name)
    by_test true e some rest = (first, contains_first first named, sym (same_text name first.name e))
    by_test false e some rest =
        let later = rest some in (later.0, contains_later first named later.0 later.1, later.2)

pub refers_back : (ds : List DeclarationValue) (configured : Configured) (info : Info) (name : List ℕ)
    → IsSome (response_in (document_listing ds configured info) name)
    → (d : DeclarationValue) × Contains ds d × RefersToError (operation_of (errors_of ds) d) name
refers_back ds configured info name some =
    let named = errors_of ds in
    let here = named_by name named
    (subst IsSome
    (value_found name (by_name (map error_entry named)) ∙ found_all name (map error_entry named) []) some) in
    let n = here.0 in
    let lists : List Definition → ApiEndpointErrorResponse → Type 0 =
    λ table error. (d : DeclarationValue) × Contains ds d × (listed_error d.shape ≡ Some error) in
    let own =
    all_contained (λ (m : NamedErrorValue). lists m.table m.error) named n
    (each_error lists ds (λ d c error is. (d, c, is))) here.1 in (
      own.0,
      own.1,
      subst (RefersToError (operation_of named own.0)) here.2
          (refers_to named own.0 n.error own.2 n (shared_itself (listed_errors (in_order ds)) n here.1)),
    )
