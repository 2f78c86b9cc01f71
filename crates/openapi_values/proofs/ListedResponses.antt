-- A response conforms to a written document exactly where it conforms to what the operation lists.
use Rattle.std.proofs.Common.{◌≡◌, ◌↔◌, ℕ, Bool, ◌&&◌, List, [], ◌∷◌, Option, Some, None, is_some, option_map, option_and_then, codes, refl, sym, ◌∙◌, ap, ap₂, subst, inl, inr}
use Rattle.std.specs.Fmt.{decimal}
use Rattle.std.specs.List.{list_all}
use Rattle.std.specs.Option.{option_map_or, option_or}
use Rattle.std.specs.Prelude.{IsSomeAnd}
use Rattle.schema_values.specs.declared.json_value.Json.{Json, Text, out-Json}
use Rattle.schema_values.specs.declared.json_value.Json.TheVariants.{outs-Object, outs-Text}
use Rattle.schema_values.specs.Get.{get_of}
use Rattle.request_words.specs.declared.request.HeaderLine.{HeaderLine}
use Rattle.request_words.specs.Prefixes.{after}
use Rattle.openapi_values.specs.declared.document.OpenApi.{OpenApi}
use Rattle.openapi_values.specs.declared.media.MediaType.{MediaType}
use Rattle.openapi_values.specs.declared.media.ResponseObject.{ResponseObject}
use Rattle.openapi_values.specs.declared.operation.Operation.{Operation}
use Rattle.openapi_values.specs.declared.parameter.HeaderObject.{HeaderObject}
use Rattle.openapi_values.specs.Admits.{operation_at}
use Rattle.openapi_values.specs.Conforms.{SentResponse, class_of, by_status, response_listed, referred_response, StandsFor, itself, by_reference, line_stands, header_stands, headers_stand, IsJsonResponse, BodyConforms, ResponseConforms, Conforms}
use Rattle.openapi_values.specs.Document.{open_api_json}
use Rattle.openapi_values.specs.Find.{value_at, operation_in, response_in}
use Rattle.openapi_values.specs.Levels.{as_text, as_object}
use Rattle.openapi_values.specs.ListedConforms as types
use Rattle.openapi_values.specs.ListedConforms.{response_of, name_referred, ListedStandsFor, in_full, listed_header_stands, ListedBodyConforms, ListedResponseConforms, ListedConforms}
use Rattle.openapi_values.specs.Lookup.{member_in}
use Rattle.openapi_values.specs.Objects.{reference_json, map_members, unless_empty}
use Rattle.openapi_values.specs.Operation.{media_type_json, described_json, response_json, operation_json}
use Rattle.openapi_values.specs.Options.{is_some_and}
use Rattle.openapi_values.specs.Parameters.{header_entries, header_json}
use Rattle.openapi_values.specs.RequestParameters.{is_true_at}
use Rattle.openapi_values.proofs.ListedOperations.{flag_read, is_some_mapped, mapped_to, mapped_from, media_schema}
use Rattle.openapi_values.proofs.Stands.{get-object_of, operation-stands, schema_of, under_map, responses-stand, named-stands, described-reference, described-headers, described-content}

-- ---- the response for a status

-- what is found by names alike is found by a status alike
module _ {X Y : Type 0} (f : X → Y) (at : List ℕ → Option X) (found : List ℕ → Option Y) (alike : (name : List ℕ) → found name ≡ option_map f (at name)) where
  by_class : (name : Option (List ℕ)) → option_and_then found name ≡ option_map f (option_and_then at name)
  by_class None = refl
  by_class (Some name) = alike name

  either_mapped : (a b : Option X) → option_or (option_map f a) (option_map f b) ≡ option_map f (option_or a b)
  either_mapped None b = refl
  either_mapped (Some x) b = refl

  by_status-alike : (status : ℕ) → by_status found status ≡ option_map f (by_status at status)
  by_status-alike status =
      ap₂ option_or (alike (decimal status)) (ap₂ option_or (by_class (class_of status)) (alike (codes "default")) ∙ either_mapped _ _)
      ∙ either_mapped _ _

listed-is : (operation : Operation) (status : ℕ) → response_listed (operation_json operation) status ≡ option_map response_json (response_of operation.responses status)
listed-is operation status =
    ap (λ o. by_status (member_in o) status) (responses-stand operation)
    ∙ by_status-alike response_json (λ name. value_at name operation.responses) _ (λ name. under_map response_json name operation.responses) status

-- ---- references

reference_is : (t : List ℕ) → get_of (codes "$ref") (reference_json t) ≡ Some (Text t)
reference_is t = get-object_of ((codes "$ref", Some (Text t)) ∷ []) (codes "$ref") refl

-- a response is written in full, or as a reference
in_full-is : (r : ResponseObject) → r.reference ≡ None → response_json r ≡ described_json r
in_full-is r e = ap (λ o. option_map_or reference_json o (described_json r)) e

alone : (r : ResponseObject) (t : List ℕ) → r.reference ≡ Some t → response_json r ≡ reference_json t
alone r t e = ap (λ o. option_map_or reference_json o (described_json r)) e

written_reference : (r : ResponseObject) (o : Option (List ℕ)) → r.reference ≡ o → get_of (codes "$ref") (response_json r) ≡ option_map Text o
written_reference r None e = ap (get_of (codes "$ref")) (in_full-is r e) ∙ described-reference r
written_reference r (Some t) e = ap (get_of (codes "$ref")) (alone r t e) ∙ reference_is t

referred-is : (r : ResponseObject) → referred_response (response_json r) ≡ name_referred r
referred-is r =
    ap (λ o. option_and_then (after (codes "#/components/responses/")) (option_and_then (λ member. as_text (out-Json member)) o)) (written_reference r r.reference refl)
    ∙ text_of_mapped r.reference
  where
    text_of_mapped : (o : Option (List ℕ)) → option_and_then (after (codes "#/components/responses/")) (option_and_then (λ member. as_text (out-Json member)) (option_map Text o)) ≡ option_and_then (after (codes "#/components/responses/")) o
    text_of_mapped None = refl
    text_of_mapped (Some t) = ap (λ x. option_and_then (after (codes "#/components/responses/")) (as_text x)) (outs-Text t)

unmapped : {X Y : Type 0} (f : X → Y) (o : Option X) → option_map f o ≡ None → o ≡ None
unmapped f None e = refl
unmapped f (Some x) e = absurd (cc e)

mapped : {X Y : Type 0} (f : X → Y) (o : Option X) (y : Y) → option_map f o ≡ Some y → (x : X) × (o ≡ Some x) × (f x ≡ y)
mapped f None y e = absurd (cc e)
mapped f (Some x) y e = (x, refl, cc e)

module _ (document : OpenApi) where
  abbrev doc : Json
  doc = open_api_json document

  -- what the JSON of a listed response stands for is that of a response in full
  stands_to : (listed : ResponseObject) {json meant : Json} → json ≡ response_json listed → StandsFor doc json meant → (r : ResponseObject) × ListedStandsFor document listed r × (meant ≡ response_json r)
  stands_to listed is (itself none) =
      let plain : listed.reference ≡ None = unmapped Text listed.reference (sym (written_reference listed listed.reference refl) ∙ ap (get_of (codes "$ref")) (sym is) ∙ none) in
      (listed, in_full plain, is)
  stands_to listed is (by_reference name named refers found later) =
      let at_name : name_referred listed ≡ Some name = sym (referred-is listed) ∙ ap referred_response (sym is) ∙ refers in
      let (r, at, same) = mapped response_json (response_in document name) named (sym (named-stands document name) ∙ found) in
      let (meant, stands, json) = stands_to r (sym same) later in
      (meant, types.by_reference name r at_name at stands, json)

  stands_from : {listed meant : ResponseObject} → ListedStandsFor document listed meant → StandsFor doc (response_json listed) (response_json meant)
  stands_from {listed} (in_full plain) = itself (written_reference listed listed.reference refl ∙ ap (option_map Text) plain)
  stands_from {listed} (types.by_reference name named refers found later) =
      by_reference name (response_json named) (referred-is listed ∙ refers) (named-stands document name ∙ ap (option_map response_json) found) (stands_from later)

  -- what is stood for is in full
  full : {listed meant : ResponseObject} → ListedStandsFor document listed meant → meant.reference ≡ None
  full (in_full plain) = plain
  full (types.by_reference name named refers found later) = full later

-- ---- headers

required-is : (h : HeaderObject) → is_true_at (codes "required") (header_json h) ≡ h.required
unfolding header_json
required-is h = flag_read h.required _ (get-object_of (header_entries h) (codes "required") refl)

headers_all : (lines : List HeaderLine) (headers : List (List ℕ × HeaderObject)) → list_all (header_stands lines) (map_members header_json headers) ≡ list_all (listed_header_stands lines) headers
headers_all lines [] = refl
headers_all lines (h ∷ hs) = ap₂ (λ a b. a && b) (ap (λ required. line_stands lines required h.0) (required-is h.1)) (headers_all lines hs)

headers-are : (lines : List HeaderLine) (headers : List (List ℕ × HeaderObject)) → headers_stand lines (unless_empty (map_members header_json headers)) ≡ list_all (listed_header_stands lines) headers
headers-are lines [] = refl
headers-are lines (h ∷ hs) = ap (λ x. is_some_and (as_object x) (list_all (header_stands lines))) (outs-Object (map_members header_json (h ∷ hs))) ∙ headers_all lines (h ∷ hs)

-- ---- bodies

module _ (content : List (List ℕ × MediaType)) where
  media-is : (media : List ℕ) → member_in (unless_empty (map_members media_type_json content)) media ≡ option_map media_type_json (value_at media content)
  media-is media = under_map media_type_json media content

  schema-is : (media : List ℕ) → member_in (member_in (unless_empty (map_members media_type_json content)) media) (codes "schema") ≡ option_map media_schema (value_at media content)
  schema-is media = ap (λ o. member_in o (codes "schema")) (media-is media) ∙ schema_of (value_at media content)

  any-is : is_some (member_in (unless_empty (map_members media_type_json content)) (codes "*/*")) ≡ is_some (value_at (codes "*/*") content)
  any-is = ap is_some (media-is (codes "*/*")) ∙ is_some_mapped media_type_json (value_at (codes "*/*") content)

module _ (doc : Json) (response : SentResponse) (set : Bool) where
  body-listed : (content : List (List ℕ × MediaType)) → BodyConforms doc response set (unless_empty (map_members media_type_json content)) ↔ ListedBodyConforms doc response set content
  body-listed [] = (λ h. h, λ h. h)
  body-listed (pair ∷ pairs) = (to, from)
    where
      to : BodyConforms doc response set (unless_empty (map_members media_type_json (pair ∷ pairs))) → ListedBodyConforms doc response set (pair ∷ pairs)
      to (inl any) = inl (sym (any-is (pair ∷ pairs)) ∙ any)
      to (inr json) = inr (mapped_to media_schema (IsJsonResponse doc response set) (value_at (codes "application/json") (pair ∷ pairs)) (subst (λ (o : Option Json). IsSomeAnd o (IsJsonResponse doc response set)) (schema-is (pair ∷ pairs) (codes "application/json")) json))

      from : ListedBodyConforms doc response set (pair ∷ pairs) → BodyConforms doc response set (unless_empty (map_members media_type_json (pair ∷ pairs)))
      from (inl any) = inl (any-is (pair ∷ pairs) ∙ any)
      from (inr json) = inr (subst (λ (o : Option Json). IsSomeAnd o (IsJsonResponse doc response set)) (sym (schema-is (pair ∷ pairs) (codes "application/json"))) (mapped_from media_schema (IsJsonResponse doc response set) (value_at (codes "application/json") (pair ∷ pairs)) json))

  -- ---- a response in full

  abbrev BodyAt : Option Json → Type 0
  BodyAt o = BodyConforms doc response set o

  pub response-listed : (r : ResponseObject) → r.reference ≡ None → ResponseConforms doc response set (response_json r) ↔ ListedResponseConforms doc response set r
  response-listed r plain =
      let headers : headers_stand response.headers (get_of (codes "headers") (response_json r)) ≡ list_all (listed_header_stands response.headers) r.headers
      = ap (λ j. headers_stand response.headers (get_of (codes "headers") j)) (in_full-is r plain) ∙ ap (headers_stand response.headers) (described-headers r) ∙ headers-are response.headers r.headers in
      let content : get_of (codes "content") (response_json r) ≡ unless_empty (map_members media_type_json r.content) = ap (get_of (codes "content")) (in_full-is r plain) ∙ described-content r in (
        λ h. record { headers = sym headers ∙ h.headers; body = (body-listed r.content).0 (subst BodyAt content h.body) },
        λ h. record { headers = headers ∙ h.headers; body = subst BodyAt (sym content) ((body-listed r.content).1 h.body) },
      )

-- ---- operations

pub responses-conform : (document : OpenApi) (path method : List ℕ) (listed : Operation) (response : SentResponse) (set : Bool) → operation_in document path method ≡ Some listed
    → Conforms (open_api_json document) path method response set ↔ ListedConforms document listed response set
responses-conform document path method operation response set found = (to, from)
  where
    stands : operation_at (open_api_json document) path method ≡ Some (operation_json operation)
    stands = operation-stands document path method ∙ ap (option_map operation_json) found

    to : Conforms (open_api_json document) path method response set → ListedConforms document operation response set
    to c =
        let same : c.operation ≡ operation_json operation = cc (c.stands, stands) in
        let (listed, at, is) = mapped response_json (response_of operation.responses response.status) c.listed (sym (listed-is operation response.status) ∙ ap (λ j. response_listed j response.status) (sym same) ∙ c.is_listed) in
        let (meant, stands_for, json) = stands_to document listed (sym is) c.stands_for in
        record {
          listed = listed;
          is_listed = at;
          meant = meant;
          stands_for = stands_for;
          conforms = (response-listed (open_api_json document) response set meant (full document stands_for)).0 (subst (ResponseConforms (open_api_json document) response set) json c.conforms);
        }

    from : ListedConforms document operation response set → Conforms (open_api_json document) path method response set
    from c = record {
      operation = operation_json operation;
      stands = stands;
      listed = response_json c.listed;
      is_listed = listed-is operation response.status ∙ ap (option_map response_json) c.is_listed;
      meant = response_json c.meant;
      stands_for = stands_from document c.stands_for;
      conforms = (response-listed (open_api_json document) response set c.meant (full document c.stands_for)).1 c.conforms;
    }
