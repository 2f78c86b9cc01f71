-- A typed body holds of a request exactly where it denotes an argument: as JSON, or as a form.
use Rattle.std.proofs.Common.{◌≡◌, ◌↔◌, ℕ, Bool, true, false, ◌&&◌, cond, List, Option, Some, None, is_ok}
use Rattle.std.proofs.Common.{codes, bytes_eq, refl, sym, ◌∙◌, ap, inl, inr}
use Rattle.std.proofs.lemmas.Bool.{and_from, and_parts}
use Rattle.std.proofs.lemmas.Slice.Eq.{bytes_eq-Decides}
use Rattle.std.specs.Option.{option_map_or}
use Rattle.std.specs.Prelude.{IsOk}
use Rattle.std.specs.declared.result.Result.TheVariants.{Ok, Err}
use Rattle.schema_values.specs.declared.json_value.Json.{Json}
use Rattle.schema_values.proofs.CallerLemmas.{reading_sound}
use Rattle.request_words.specs.declared.request.WireRequest.{WireRequest}
use Rattle.request_words.specs.MediaTypes.{HasJsonType, is_form_type, is_json_type, media_type}
use Rattle.request_words.specs.Pairs.{form_pairs}
use Rattle.openapi_values.specs.Listed.{ListedBodyHolds}
use Rattle.openapi_values.specs.RequestBodies.{IsFormOf, IsJsonOf}
use Rattle.request_parts.specs.ContentTypes.{kind_of}
use Rattle.request_parts.specs.declared.content_type.ApiEndpointBodyContentType.{ApiEndpointBodyContentType}
use Rattle.request_parts.specs.declared.content_type.ApiEndpointBodyContentType.TheVariants as kinds
use Rattle.descriptors.specs.declared.desc.Desc.{Desc}
use Rattle.descriptors.specs.declared.table.Definition.{Definition}
use Rattle.typed_values.specs.Denotes.{Told, told}
use Rattle.typed_values.specs.SchemaTable.{schema_json_titled}
use Rattle.flat_maps.specs.declared.repeats.Repeats.TheVariants.{Refuse}
use Rattle.flat_maps.specs.Pairs.{pairs_told}
use Rattle.written_schemas.specs.Written.{IsWritten}
use Rattle.written_schemas.proofs.CallerLemmas.{titled_agrees}
use Rattle.written_texts.specs.FlatStructs.{IsFlatStruct}
use Rattle.written_texts.proofs.CallerLemmas.{titled_are, true_where}
use Rattle.api_extract.specs.Readings.{value_read}
use Rattle.api_extract.specs.Refusals.{told_as}
use Rattle.api_extract.specs.TypedBodies.{body_by_given, body_by_media, form_body, json_body, read_told, typed_body}
use Rattle.api_extract.proofs.CallerLemmas.{read_value, value_reads}
use Rattle.endpoint_metadata.specs.Shown.{body_under}
use Rattle.api_agreement.specs.ShownSlots.{IsBodyType}

-- a tree is an argument, and a fault is none
pub told_ok : (prefix : List ℕ) (o : Told) → is_ok (told_as prefix o) ≡ is_ok o
told_ok prefix (Ok tree) = refl
told_ok prefix (Err trouble) = refl

-- ---- the media type of a request

abbrev octets : List ℕ
octets = codes "application/octet-stream"

-- bytes are neither JSON nor a form, and no form is JSON
no_octets : (test : List ℕ → Bool) → test octets ≡ false → (media : List ℕ) → bytes_eq media octets ≡ true
    → test media ≡ false
no_octets test none media same = ap test ((bytes_eq-Decides media octets).0 same) ∙ none

form_type : (media : List ℕ) → is_form_type media ≡ true → is_json_type media ≡ false
form_type media form =
    let is : codes "application/x-www-form-urlencoded" ≡ media =
    (bytes_eq-Decides (codes "application/x-www-form-urlencoded") media).0 form in
    sym (ap is_json_type is)

no_form : (media : List ℕ) → is_json_type media ≡ true → (b : Bool) → is_form_type media ≡ b → b ≡ false
no_form media json true e = absurd (cc (json, form_type media e))
no_form media json false e = refl

module _ (table : List Definition) (desc : Desc) (bytes media : List ℕ) where
  json_by : (a b c d : Bool) → (a ≡ true → b ≡ false)
      → is_ok (body_by_given table desc bytes kinds.Json media
      (cond a (Some kinds.Bytes)
      (cond b (Some kinds.Json) (cond c (Some kinds.UrlEncoded) (cond d (Some kinds.MultipartFormData) None)))))
      ≡ (b && is_ok (json_body table desc bytes))
  json_by true true c d never = absurd (cc (never refl))
  json_by true false c d never = refl
  json_by false true c d never = refl
  json_by false false true d never = refl
  json_by false false false true never = refl
  json_by false false false false never = refl

  form_by : (a b c d : Bool) → (a ≡ true → c ≡ false) → (b ≡ true → c ≡ false)
      → is_ok (body_by_given table desc bytes kinds.UrlEncoded media
      (cond a (Some kinds.Bytes)
      (cond b (Some kinds.Json) (cond c (Some kinds.UrlEncoded) (cond d (Some kinds.MultipartFormData) None)))))
      ≡ (c && is_ok (form_body table desc bytes))
  form_by true b true d never other = absurd (cc (never refl))
  form_by true b false d never other = refl
  form_by false true true d never other = absurd (cc (other refl))
  form_by false true false d never other = refl
  form_by false false true d never other = refl
  form_by false false false true never other = refl
  form_by false false false false never other = refl

  given_json : is_ok (body_by_given table desc bytes kinds.Json media (kind_of media))
      ≡ (is_json_type media && is_ok (json_body table desc bytes))
  given_json =
      json_by (bytes_eq media octets) (is_json_type media) (is_form_type media)
      (bytes_eq media (codes "multipart/form-data")) (no_octets is_json_type refl media)

  given_form : is_ok (body_by_given table desc bytes kinds.UrlEncoded media (kind_of media))
      ≡ (is_form_type media && is_ok (form_body table desc bytes))
  given_form =
      form_by (bytes_eq media octets) (is_json_type media) (is_form_type media)
      (bytes_eq media (codes "multipart/form-data")) (no_octets is_form_type refl media)
      (λ json. no_form media json (is_form_type media) refl)

module _ (table : List Definition) (desc : Desc) (bytes : List ℕ) where
  sent_json : (o : Option (List ℕ))
      → is_ok (body_by_media table desc bytes kinds.Json o)
      ≡ (option_map_or is_json_type o false && is_ok (json_body table desc bytes))
  sent_json None = refl
  sent_json (Some media) = given_json table desc bytes media

  sent_form : (o : Option (List ℕ))
      → is_ok (body_by_media table desc bytes kinds.UrlEncoded o)
      ≡ (option_map_or is_form_type o false && is_ok (form_body table desc bytes))
  sent_form None = refl
  sent_form (Some media) = given_form table desc bytes media

-- ---- what a body denotes

module _ (doc : Json) (table : List Definition) (desc : Desc) (name : List ℕ) (request : WireRequest) where
  abbrev schema : Json
  schema = schema_json_titled table name desc

  -- JSON that denotes something is read, and admitted
  module _ (written : IsWritten doc table desc) (typed : HasJsonType request.headers) where
    json_from : (o : Option Json) → value_read request.body ≡ o → is_ok (read_told table desc o) ≡ true
        → IsJsonOf doc request schema
    json_from None is ok = absurd (cc ok)
    json_from (Some json) is ok =
        let reads = value_reads request.body json is in
        let tree = (true_where (told table desc json desc)).0 ok in
        record {
          has_type = typed;
          json = json;
          reads = reads;
          admitted = (titled_agrees doc table desc written name json (reading_sound request.body json reads)).1 tree;
        }

  json_to : IsWritten doc table desc → (h : IsJsonOf doc request schema)
      → is_ok (json_body table desc request.body) ≡ true
  json_to written h =
      let tree =
      (titled_agrees doc table desc written name h.json (reading_sound request.body h.json h.reads)).0 h.admitted in
      told_ok (codes "unable to parse JSON body: ") (read_told table desc (value_read request.body))
      ∙ ap (λ (o : Option Json). is_ok (read_told table desc o)) (read_value request.body h.json h.reads)
      ∙ (true_where (told table desc h.json desc)).1 tree

  -- under the one media type that is listed
  only_json : ListedBodyHolds doc request (body_under kinds.Json true schema)
      → IsJsonOf doc request schema
  only_json (inl bytes) = absurd (cc bytes)
  only_json (inr (inl json)) = json
  only_json (inr (inr form)) = absurd form

  only_form : ListedBodyHolds doc request (body_under kinds.UrlEncoded true schema)
      → IsFormOf doc request schema
  only_form (inl bytes) = absurd (cc bytes)
  only_form (inr (inl json)) = absurd json
  only_form (inr (inr form)) = form

  json_slot : IsWritten doc table desc
      → ListedBodyHolds doc request (body_under kinds.Json true schema)
      ↔ IsOk (typed_body table desc kinds.Json request.headers request.body)
  json_slot written = (
    λ h.
        let json = only_json h in
        sent_json table desc request.body (media_type request.headers)
        ∙ and_from _ _ json.has_type (json_to written json),
    λ ok.
        let both = and_parts _ _ (sym (sent_json table desc request.body (media_type request.headers)) ∙ ok) in
        inr (inl
        (json_from written both.0 (value_read request.body) refl
        (sym (told_ok (codes "unable to parse JSON body: ") (read_told table desc (value_read request.body)))
        ∙ both.1))),
  )

  form_slot : (fields : _) → IsFlatStruct table desc fields → IsWritten doc table desc
      → ListedBodyHolds doc request (body_under kinds.UrlEncoded true schema)
      ↔ IsOk (typed_body table desc kinds.UrlEncoded request.headers request.body)
  form_slot fields flat written =
      let pairs = form_pairs request.body in
      let agree = titled_are doc table desc fields flat written.defined pairs name in
      let where_told = true_where (pairs_told table Refuse pairs desc) in
      let prefix = codes "unable to parse URL-encoded body: " in (
        λ h.
            let form = only_form h in
            sent_form table desc request.body (media_type request.headers)
            ∙ and_from _ _ form.has_type
            (told_ok prefix (pairs_told table Refuse pairs desc) ∙ where_told.1 (agree.0 form.admitted)),
        λ ok.
            let both = and_parts _ _ (sym (sent_form table desc request.body (media_type request.headers)) ∙ ok) in
            inr (inr
            (record {
              has_type = both.0;
              admitted = agree.1
                  (where_told.0 (sym (told_ok prefix (pairs_told table Refuse pairs desc)) ∙ both.1));
            })),
      )

  -- under the media type of an endpoint
  pub typed_slot : (kind : ApiEndpointBodyContentType) → IsBodyType table desc kind → IsWritten doc table desc
      → ListedBodyHolds doc request (body_under kind true schema)
      ↔ IsOk (typed_body table desc kind request.headers request.body)
  typed_slot kinds.Json shown written = json_slot written
  typed_slot kinds.UrlEncoded shown written = form_slot shown.0 shown.1 written
  typed_slot kinds.Bytes shown written = absurd shown
  typed_slot kinds.MultipartFormData shown written = absurd shown
