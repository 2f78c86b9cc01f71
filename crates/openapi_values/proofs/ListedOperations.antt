-- A written document admits the requests that hold of its listed operations.
use Rattle.std.proofs.Common.{◌≡◌, ◌↔◌, ℕ, Bool, true, false, ◌&&◌, ◌||◌, List, [], ◌∷◌, map, Option, Some, None, IfSome, is_some, option_map, option_and_then, bytes_eq, codes, refl, sym, ◌∙◌, ap, ap₂, subst, inl, inr}
use Rattle.std.specs.List.{list_all, list_any}
use Rattle.std.specs.Prelude.{IsSomeAnd}
use Rattle.schema_values.specs.declared.json_value.Json.{Json, Text, List as ListOf, out-Json}
use Rattle.schema_values.specs.declared.json_value.Json.TheVariants.{outs-Bool, outs-List, outs-Text}
use Rattle.schema_values.specs.Get.{get_of}
use Rattle.request_words.specs.declared.pairs.NamedText.{NamedText}
use Rattle.request_words.specs.declared.request.WireRequest.{WireRequest}
use Rattle.request_words.specs.Pairs.{query_pairs, has_pair}
use Rattle.openapi_values.specs.declared.document.OpenApi.{OpenApi}
use Rattle.openapi_values.specs.declared.media.MediaType.{MediaType}
use Rattle.openapi_values.specs.declared.media.RequestBody.{RequestBody}
use Rattle.openapi_values.specs.declared.operation.Operation.{Operation}
use Rattle.openapi_values.specs.declared.parameter.Parameter.{Parameter}
use Rattle.openapi_values.specs.Admits.{operation_at, parameters_of, pagination_of, lists_query, query_rule_of, operation_pages_hold, OperationHolds, Admits}
use Rattle.openapi_values.specs.Document.{open_api_json}
use Rattle.openapi_values.specs.Find.{value_at, operation_in}
use Rattle.openapi_values.specs.IfTrue.{if_true}
use Rattle.openapi_values.specs.Levels.{as_text, as_list, is_true}
use Rattle.openapi_values.specs.Listed.{listed_holds, lists_name, listed_pages_hold, ListedBodyHolds, ListedHolds}
use Rattle.openapi_values.specs.Lookup.{member_in}
use Rattle.openapi_values.specs.Operation.{media_type_json, request_body_json, pagination_json, operation_json}
use Rattle.openapi_values.specs.Options.{is_some_and, is_none_or}
use Rattle.openapi_values.specs.Pages.{query_rule, pages_hold, name_stands, required_stand}
use Rattle.openapi_values.specs.Parameters.{parameter_entries, parameter_json}
use Rattle.openapi_values.specs.RequestBodies.{IsJsonOf, IsFormOf, media_in, schema_under, BodyHolds}
use Rattle.openapi_values.specs.RequestParameters.{text_of, is_true_at, placed_holds, parameter_holds, is_query_named}
use Rattle.openapi_values.specs.TextAdmits.{text_admitted}
use Rattle.openapi_values.proofs.ParameterRead.{parameter_read}
use Rattle.openapi_values.proofs.Stands.{get-object_of, operation-stands, body-stands, parameters-stand, pages-stand, media-stands, schema_of}

-- ---- parameters

text_at : (name : List ℕ) (json : Json) (t : List ℕ) → get_of name json ≡ Some (Text t) → text_of name json ≡ Some t
text_at name json t e = ap (option_and_then (λ member. as_text (out-Json member))) e ∙ ap as_text (outs-Text t)

pub flag_read : (b : Bool) (o : Option Json) → o ≡ if_true b → is_some_and o (λ member. is_true (out-Json member)) ≡ b
flag_read true o e = ap (λ (o : Option Json). is_some_and o (λ member. is_true (out-Json member))) e ∙ ap is_true (outs-Bool true)
flag_read false o e = ap (λ (o : Option Json). is_some_and o (λ member. is_true (out-Json member))) e

module _ (p : Parameter) where
  place_is : text_of (codes "in") (parameter_json p) ≡ Some p.location
  unfolding parameter_json
  place_is = text_at (codes "in") (parameter_json p) p.location (get-object_of (parameter_entries p) (codes "in") refl)

  name_is : text_of (codes "name") (parameter_json p) ≡ Some p.name
  unfolding parameter_json
  name_is = text_at (codes "name") (parameter_json p) p.name (get-object_of (parameter_entries p) (codes "name") refl)

  schema_is : get_of (codes "schema") (parameter_json p) ≡ Some p.schema
  unfolding parameter_json
  schema_is = get-object_of (parameter_entries p) (codes "schema") refl

  required_is : is_true_at (codes "required") (parameter_json p) ≡ p.required
  unfolding parameter_json
  required_is = flag_read p.required _ (get-object_of (parameter_entries p) (codes "required") refl)

  parameter_is : (doc : Json) (request : WireRequest) (in_query : (List ℕ → Bool) → Bool → List ℕ → Bool)
      → parameter_holds doc request in_query (parameter_json p) ≡ placed_holds request in_query (text_admitted doc p.schema) p.required p.name p.location
  parameter_is doc request in_query =
      sym (parameter_read doc request in_query (parameter_json p) p.location p.name p.schema place_is name_is schema_is)
      ∙ ap (λ required. placed_holds request in_query (text_admitted doc p.schema) required p.name p.location) required_is

  query_named_is : (name : List ℕ) → is_query_named name (parameter_json p) ≡ (bytes_eq p.location (codes "query") && bytes_eq p.name name)
  query_named_is name = rw (place_is, name_is) refl

all_listed : (doc : Json) (request : WireRequest) (in_query : (List ℕ → Bool) → Bool → List ℕ → Bool) (ps : List Parameter)
    → list_all (parameter_holds doc request in_query) (map parameter_json ps) ≡ list_all (λ p. placed_holds request in_query (text_admitted doc p.schema) p.required p.name p.location) ps
all_listed doc request in_query [] = refl
all_listed doc request in_query (p ∷ ps) = ap₂ (λ a b. a && b) (parameter_is p doc request in_query) (all_listed doc request in_query ps)

any_listed : (name : List ℕ) (ps : List Parameter) → list_any (is_query_named name) (map parameter_json ps) ≡ lists_name ps name
any_listed name [] = refl
any_listed name (p ∷ ps) = ap₂ (λ a b. a || b) (query_named_is p name) (any_listed name ps)

-- ---- pages

pub is_some_mapped : {X Y : Type 0} (f : X → Y) (o : Option X) → is_some (option_map f o) ≡ is_some o
is_some_mapped f None = refl
is_some_mapped f (Some x) = refl

names_stand : (pairs : List NamedText) (names : List (List ℕ)) → list_all (name_stands pairs) (map Text names) ≡ list_all (has_pair pairs) names
names_stand pairs [] = refl
names_stand pairs (name ∷ names) = ap₂ (λ a b. a && b) (ap (λ x. is_some_and (as_text x) (has_pair pairs)) (outs-Text name)) (names_stand pairs names)

required_names : (pairs : List NamedText) (names : List (List ℕ)) → required_stand pairs (get_of (codes "required") (pagination_json names)) ≡ list_all (has_pair pairs) names
required_names pairs names =
    ap (required_stand pairs) (get-object_of ((codes "required", Some (ListOf (map Text names))) ∷ []) (codes "required") refl)
    ∙ ap (λ x. is_some_and (as_list x) (list_all (name_stands pairs))) (outs-List (map Text names))
    ∙ names_stand pairs names

pages_alike : (l m : List ℕ → Bool) (r s : Bool) (pairs : List NamedText) → l (codes "limit") ≡ m (codes "limit") → l (codes "page_token") ≡ m (codes "page_token") → r ≡ s → pages_hold l r pairs ≡ pages_hold m s pairs
pages_alike l m r s pairs at_limit at_token required = rw (at_limit, at_token, required) refl

module _ (doc : Json) (request : WireRequest) (o : Operation) where
  abbrev pairs : List NamedText
  pairs = query_pairs request.query

  lists_is : (name : List ℕ) → lists_query (operation_json o) name ≡ lists_name o.parameters name
  lists_is name = ap (list_any (is_query_named name)) (parameters-stand o) ∙ any_listed name o.parameters

  parameters_are : list_all (parameter_holds doc request (query_rule_of request (operation_json o))) (parameters_of (operation_json o)) ≡ list_all (listed_holds doc request (is_some o.pagination)) o.parameters
  parameters_are =
      ap (λ ps. list_all (parameter_holds doc request (query_rule_of request (operation_json o))) ps) (parameters-stand o)
      ∙ ap (λ paged. list_all (parameter_holds doc request (query_rule paged pairs)) (map parameter_json o.parameters)) (ap is_some (pages-stand o) ∙ is_some_mapped pagination_json o.pagination)
      ∙ all_listed doc request (query_rule (is_some o.pagination) pairs) o.parameters

  pages_of : (names : List (List ℕ)) → operation_pages_hold request (operation_json o) (pagination_json names) ≡ listed_pages_hold request o.parameters names
  pages_of names = pages_alike (lists_query (operation_json o)) (lists_name o.parameters) _ _ pairs (lists_is (codes "limit")) (lists_is (codes "page_token")) (required_names pairs names)

  mapped_pages : (l : Option (List (List ℕ))) → is_none_or (option_map pagination_json l) (operation_pages_hold request (operation_json o)) ≡ is_none_or l (listed_pages_hold request o.parameters)
  mapped_pages None = refl
  mapped_pages (Some names) = pages_of names

  pages_are : is_none_or (pagination_of (operation_json o)) (operation_pages_hold request (operation_json o)) ≡ is_none_or o.pagination (listed_pages_hold request o.parameters)
  pages_are = ap (λ l. is_none_or l (operation_pages_hold request (operation_json o))) (pages-stand o) ∙ mapped_pages o.pagination

-- ---- bodies

pub mapped_to : {X Y : Type 0} (f : X → Y) (P : Y → Type 0) (o : Option X) → IsSomeAnd (option_map f o) P → IsSomeAnd o (λ x. P (f x))
mapped_to f P None h = h
mapped_to f P (Some x) h = h

pub mapped_from : {X Y : Type 0} (f : X → Y) (P : Y → Type 0) (o : Option X) → IsSomeAnd o (λ x. P (f x)) → IsSomeAnd (option_map f o) P
mapped_from f P None h = h
mapped_from f P (Some x) h = h

abbrev pub media_schema : MediaType → Json
media_schema media = media.schema

module _ (doc : Json) (request : WireRequest) (body : RequestBody) where
  under_is : (media : List ℕ) → schema_under media (request_body_json body) ≡ option_map media_schema (value_at media body.content)
  under_is media = ap (λ o. member_in o (codes "schema")) (media-stands media body) ∙ schema_of (value_at media body.content)

  bytes_are : is_some (media_in (codes "application/octet-stream") (request_body_json body)) ≡ is_some (value_at (codes "application/octet-stream") body.content)
  bytes_are = ap is_some (media-stands (codes "application/octet-stream") body) ∙ is_some_mapped media_type_json (value_at (codes "application/octet-stream") body.content)

  under_to : (media : List ℕ) (P : Json → Type 0) → IsSomeAnd (schema_under media (request_body_json body)) P → IsSomeAnd (value_at media body.content) (λ m. P m.schema)
  under_to media P h = mapped_to media_schema P (value_at media body.content) (subst (λ (o : Option Json). IsSomeAnd o P) (under_is media) h)

  under_from : (media : List ℕ) (P : Json → Type 0) → IsSomeAnd (value_at media body.content) (λ m. P m.schema) → IsSomeAnd (schema_under media (request_body_json body)) P
  under_from media P h = subst (λ (o : Option Json). IsSomeAnd o P) (sym (under_is media)) (mapped_from media_schema P (value_at media body.content) h)

  body_to : BodyHolds doc request (request_body_json body) → ListedBodyHolds doc request body
  body_to (inl bytes) = inl (sym bytes_are ∙ bytes)
  body_to (inr (inl json)) = inr (inl (under_to (codes "application/json") (IsJsonOf doc request) json))
  body_to (inr (inr form)) = inr (inr (under_to (codes "application/x-www-form-urlencoded") (IsFormOf doc request) form))

  body_from : ListedBodyHolds doc request body → BodyHolds doc request (request_body_json body)
  body_from (inl bytes) = inl (bytes_are ∙ bytes)
  body_from (inr (inl json)) = inr (inl (under_from (codes "application/json") (IsJsonOf doc request) json))
  body_from (inr (inr form)) = inr (inr (under_from (codes "application/x-www-form-urlencoded") (IsFormOf doc request) form))

module _ (doc : Json) (request : WireRequest) where
  bodies_to : (o : Option RequestBody) → IfSome (option_map request_body_json o) (BodyHolds doc request) → IfSome o (ListedBodyHolds doc request)
  bodies_to None h = tt
  bodies_to (Some body) h = body_to doc request body h

  bodies_from : (o : Option RequestBody) → IfSome o (ListedBodyHolds doc request) → IfSome (option_map request_body_json o) (BodyHolds doc request)
  bodies_from None h = tt
  bodies_from (Some body) h = body_from doc request body h

  -- ---- operations

  abbrev BodyAt : Option Json → Type 0
  BodyAt o = IfSome o (BodyHolds doc request)

  pub operation-listed : (o : Operation) → OperationHolds doc request (operation_json o) ↔ ListedHolds doc request o
  operation-listed o = (
    λ h. record {
      parameters = sym (parameters_are doc request o) ∙ h.parameters;
      pages = sym (pages_are doc request o) ∙ h.pages;
      body = bodies_to o.request_body (subst BodyAt (body-stands o) h.body);
    },
    λ h. record {
      parameters = parameters_are doc request o ∙ h.parameters;
      pages = pages_are doc request o ∙ h.pages;
      body = subst BodyAt (sym (body-stands o)) (bodies_from o.request_body h.body);
    },
  )

pub operations-admitted : (document : OpenApi) (path method : List ℕ) (listed : Operation) (request : WireRequest) → operation_in document path method ≡ Some listed
    → Admits (open_api_json document) path method request ↔ ListedHolds (open_api_json document) request listed
operations-admitted document path method listed request found =
    let doc = open_api_json document in
    let stands : operation_at doc path method ≡ Some (operation_json listed) = operation-stands document path method ∙ ap (option_map operation_json) found in (
      λ a. let same : a.operation ≡ operation_json listed = cc (a.stands, stands) in (operation-listed doc request listed).0 (subst (OperationHolds doc request) same a.holds),
      λ h. record { operation = operation_json listed; stands = stands; holds = (operation-listed doc request listed).1 h },
    )
