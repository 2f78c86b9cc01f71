-- What an operation has of a slot holds of a request exactly where the request denotes an argument for the slot.
use Rattle.std.proofs.Common.{◌≡◌, ◌↔◌, ℕ, Bool, true, false, List, [], ◌∷◌, ◌++◌}
use Rattle.std.proofs.Common.{is_ok, is_some, IsTrue, codes, refl, sym, ◌∙◌, ap, subst, inl}
use Rattle.std.proofs.lemmas.Bool.{and_from, and_parts}
use Rattle.std.specs.List.{list_all}
use Rattle.std.specs.Prelude.{⊤, Contains, IsOk}
use Rattle.schema_values.specs.declared.json_value.Json.{Json}
use Rattle.request_words.specs.declared.request.WireRequest.{WireRequest}
use Rattle.request_words.specs.Pairs.{query_pairs}
use Rattle.http_bodies.specs.Bodies.{BodyState}
use Rattle.openapi_values.specs.declared.parameter.Parameter.{Parameter}
use Rattle.openapi_values.specs.Listed.{listed_holds, listed_pages_hold}
use Rattle.openapi_values.specs.Pages.{has_token}
use Rattle.descriptors.specs.declared.desc.Desc.{Desc, Struct as StructOf}
use Rattle.descriptors.specs.declared.desc.Field.{Field}
use Rattle.descriptors.specs.declared.table.Definition.{Definition}
use Rattle.typed_values.specs.Denotes.{Told}
use Rattle.flat_maps.specs.declared.repeats.Repeats.TheVariants.{Refuse}
use Rattle.flat_maps.specs.Flat.{flat_told}
use Rattle.flat_maps.specs.Maps.{map_values}
use Rattle.flat_maps.specs.Pairs.{last_values, pairs_told}
use Rattle.header_texts.specs.HeaderTexts.{headers_told}
use Rattle.written_schemas.specs.Reached.{DefinesReached}
use Rattle.written_schemas.specs.Written.{IsWritten}
use Rattle.written_texts.specs.FieldParameters.{AllRequired, header_parameters, path_parameters, query_parameters}
use Rattle.written_texts.specs.FlatStructs.{IsFlatStruct}
use Rattle.written_texts.specs.PageParameters.{first_page_names, limit_field, page_parameters, HasLimit}
use Rattle.written_texts.specs.PageParameters.{PageParametersHold}
use Rattle.written_texts.proofs.CallerLemmas.{first_pages, header_lines_told, later_pages, path_told, query_told}
use Rattle.written_texts.proofs.CallerLemmas.{true_where}
use Rattle.handler_shapes.specs.declared.slot.Slot.{Slot}
use Rattle.handler_shapes.specs.declared.slot.Slot.TheVariants.{Path, Query, Header, PagedQuery, TypedBody, RawBody}
use Rattle.handler_shapes.specs.declared.slot.Slot.TheVariants.{StreamBody}
use Rattle.handler_shapes.specs.ShapeChecks.{ShapePasses, SlotPasses}
use Rattle.api_extract.specs.Denotes.{slot_told}
use Rattle.api_extract.specs.PageQueries.{PageTypes, limit_told, page_query_told}
use Rattle.api_extract.specs.Refusals.{told_as}
use Rattle.api_declarations.specs.Values.{DeclarationValue}
use Rattle.endpoint_metadata.specs.Shown.{documented_parameters, slot_documented}
use Rattle.endpoint_metadata.specs.Structs.{listed_fields}
use Rattle.endpoint_metadata.proofs.CallerLemmas.{open_fields}
use Rattle.api_documents.specs.Drawn.{IsDrawn, as_body, as_parameter}
use Rattle.api_agreement.specs.Agreement.{terms_of}
use Rattle.api_agreement.specs.ShownSlots.{AreScanned, HasShownSlots, IsShown}
use Rattle.api_agreement.proofs.OperationSlots.{is_paged, SlotHolds}
use Rattle.api_agreement.proofs.PageQueries.{in_limit, limit_same, on_first}
use Rattle.api_agreement.proofs.SlotsApart.{answers_in_pages, beside_query, between}
use Rattle.api_agreement.proofs.TypedBodies.{told_ok, typed_slot}

-- a slot of pages is asked for the first page
abbrev pub AsksFirst : WireRequest → Slot → Type 0
AsksFirst request (PagedQuery scan selector selector_table) = has_token (query_pairs request.query) ≡ false
AsksFirst request (Path desc) = ⊤
AsksFirst request (Query desc) = ⊤
AsksFirst request (Header desc) = ⊤
AsksFirst request (TypedBody desc name) = ⊤
AsksFirst request RawBody = ⊤
AsksFirst request StreamBody = ⊤

-- what is tested is an argument
same_where : (prefix : List ℕ) (b : Bool) (o : Told) → b ≡ is_ok o → IsTrue b ↔ IsOk (told_as prefix o)
same_where prefix b o same = (λ h. told_ok prefix o ∙ (sym same ∙ h), λ ok. same ∙ (sym (told_ok prefix o) ∙ ok))

module _ (doc : Json) (d : DeclarationValue) (shown : HasShownSlots d) (passes : ShapePasses d.shape)
    (defines : (desc : Desc) → IsDrawn d.shape desc → DefinesReached doc d.shape.table desc)
    (request : WireRequest) where
  abbrev table : List Definition
  table = d.shape.table

  abbrev test : Bool → Parameter → Bool
  test = listed_holds doc request

  fields_are : (desc : Desc) (fields : List Field) → IsFlatStruct table desc fields → listed_fields table desc ≡ fields
  fields_are desc fields flat = open_fields table desc fields flat.has_fields

  -- ---- a path, a query that is not read in pages, and headers

  module _ (desc : Desc) (fields : List Field) (flat : IsFlatStruct table desc fields) where
    same_fields : (made : List Field → List Parameter) (b : Bool)
        → list_all (test b) (made (listed_fields table desc)) ≡ list_all (test b) (made fields)
    same_fields made b = ap (λ fs. list_all (test b) (made fs)) (fields_are desc fields flat)

    path_slot : Contains d.shape.slots (Path desc) → AllRequired fields
        → list_all (test (is_paged d)) (slot_documented table (Path desc))
        ≡ is_ok (flat_told table (map_values (λ value. value) request.variables) desc)
    path_slot c required =
        same_fields (path_parameters table) (is_paged d)
        ∙ path_told doc table desc fields flat
        (λ f k. defines f.desc
        (as_parameter (Path desc) f c (subst (λ fs. Contains fs f) (sym (fields_are desc fields flat)) k))) request
        (is_paged d) required

    query_slot : Contains d.shape.slots (Query desc)
        → list_all (test (is_paged d)) (slot_documented table (Query desc))
        ≡ is_ok (pairs_told table Refuse (query_pairs request.query) desc)
    query_slot c =
        ap (λ (b : Bool). list_all (test b) (slot_documented table (Query desc)))
        (ap is_some (beside_query table d.shape.slots shown.pages desc c))
        ∙ same_fields (query_parameters table) false
        ∙ query_told doc table desc fields flat
        (λ f k. defines f.desc
        (as_parameter (Query desc) f c (subst (λ fs. Contains fs f) (sym (fields_are desc fields flat)) k))) request

    header_slot : Contains d.shape.slots (Header desc)
        → list_all (test (is_paged d)) (slot_documented table (Header desc))
        ≡ is_ok (headers_told table request.headers desc)
    header_slot c =
        same_fields (header_parameters table) (is_paged d)
        ∙ header_lines_told doc table desc fields flat
        (λ f k. defines f.desc
        (as_parameter (Header desc) f c (subst (λ fs. Contains fs f) (sym (fields_are desc fields flat)) k)))
        request (is_paged d)

  -- ---- a query that is read in pages

  module _ (scan selector : Desc) (selector_table : List Definition)
      (c : Contains d.shape.slots (PagedQuery scan selector selector_table))
      (fields : List Field) (flat : IsFlatStruct table scan fields) (scanned : AreScanned fields) where
    abbrev slot : Slot
    slot = PagedQuery scan selector selector_table

    abbrev types : PageTypes
    types = record { table = table; scan = scan; selector_table = selector_table; selector = selector }

    abbrev prefix : List ℕ
    prefix = codes "unable to parse query string: "

    same : listed_fields table scan ≡ fields
    same = fields_are scan fields flat

    listed_same : list_all (test (is_paged d)) (slot_documented table slot)
        ≡ list_all (test true) (page_parameters table fields)
    listed_same =
        ap (λ (b : Bool). list_all (test b) (slot_documented table slot))
        (answers_in_pages table d.shape.slots scan selector selector_table c)
        ∙ ap (λ fs. list_all (test true) (page_parameters table fs)) same

    place : (before : List Parameter) × (after : List Parameter)
        × (documented_parameters table d.shape.slots ≡ before ++ slot_documented table slot ++ after)
    place = between (slot_documented table) d.shape.slots slot c

    abbrev before : List Parameter
    before = place.0

    abbrev after : List Parameter
    after = place.1

    pages_same : listed_pages_hold request (documented_parameters table d.shape.slots)
        (first_page_names (listed_fields table scan))
        ≡ listed_pages_hold request (before ++ page_parameters table fields ++ after) (first_page_names fields)
    pages_same =
        ap (λ ps. listed_pages_hold request ps (first_page_names (listed_fields table scan))) place.2
        ∙ ap (λ fs. listed_pages_hold request (before ++ page_parameters table fs ++ after) (first_page_names fs)) same

    pages_to : SlotHolds doc request d slot → PageParametersHold doc table request before fields after
    pages_to h = record { listed = sym listed_same ∙ h.listed; pages = sym pages_same ∙ h.pages }

    pages_from : PageParametersHold doc table request before fields after → SlotHolds doc request d slot
    pages_from h = record { listed = listed_same ∙ h.listed; pages = pages_same ∙ h.pages; body = tt }

    limit_where : IsTrue (is_ok (limit_told (query_pairs request.query))) ↔ HasLimit (query_pairs request.query)
    limit_where =
        let where_told =
        true_where (pairs_told [] Refuse (query_pairs request.query) (StructOf (limit_field ∷ []) false)) in (
          λ h. where_told.0 (sym (limit_same (query_pairs request.query)) ∙ h),
          λ h. limit_same (query_pairs request.query) ∙ where_told.1 h,
        )

    module _ (none : has_token (query_pairs request.query) ≡ false) where
      first_where : PageParametersHold doc table request before fields after
          ↔ IsTrue (is_ok (page_query_told types (query_pairs request.query)))
      first_where =
          let pairs = query_pairs request.query in
          let agree = first_pages doc table request before fields after scanned.no_limit scan flat
          (λ f k. defines f.desc (as_parameter slot f c (subst (λ fs. Contains fs f) (sym same) k))) none in
          let flat_where = true_where (flat_told table (last_values pairs) scan) in (
            λ h.
                let both = agree.0 h in
                on_first types pairs none ∙ and_from _ _ (limit_where.1 both.0) (flat_where.1 both.1),
            λ ok.
                let both = and_parts _ _ (sym (on_first types pairs none) ∙ ok) in
                agree.1 (limit_where.0 both.0, flat_where.0 both.1),
          )

      pub first_to : SlotHolds doc request d slot
          → IsOk (told_as prefix (page_query_told types (query_pairs request.query)))
      first_to h = told_ok prefix _ ∙ first_where.0 (pages_to h)

    later_from : has_token (query_pairs request.query) ≡ true
        → IsTrue (is_ok (page_query_told types (query_pairs request.query))) → SlotHolds doc request d slot
    later_from some ok =
        let pairs = query_pairs request.query in
        let both = and_parts _ _ (sym (in_limit types pairs) ∙ ok) in
        pages_from
        ((later_pages doc table request before fields after scanned.no_limit scanned.no_token some).1
        (limit_where.0 both.0))

    by_token : (b : Bool) → has_token (query_pairs request.query) ≡ b
        → IsTrue (is_ok (page_query_told types (query_pairs request.query))) → SlotHolds doc request d slot
    by_token true some ok = later_from some ok
    by_token false none ok = pages_from ((first_where none).1 ok)

    pub page_from : IsOk (told_as prefix (page_query_told types (query_pairs request.query)))
        → SlotHolds doc request d slot
    page_from ok = by_token (has_token (query_pairs request.query)) refl (sym (told_ok prefix _) ∙ ok)

  -- ---- a body

  written : (desc : Desc) (name : List ℕ) → Contains d.shape.slots (TypedBody desc name)
      → SlotPasses table (TypedBody desc name) → IsWritten doc table desc
  written desc name c ok =
      record { table_passes = passes.table; desc_passes = ok; defined = defines desc (as_body desc name c) }

  -- ---- each slot

  module _ (body : BodyState) (limit budget : ℕ) where
    abbrev Denotes : Slot → Type 0
    Denotes slot = IsOk (slot_told (terms_of d limit budget) request body slot)

    pub slot_to : (slot : Slot) → Contains d.shape.slots slot → IsShown d.body_content_type table slot
        → SlotPasses table slot → AsksFirst request slot → SlotHolds doc request d slot → Denotes slot
    slot_to (Path desc) c s ok first h =
        (same_where (codes "bad parameter in URL path: ") _ _ (path_slot desc s.0 s.1 c s.2)).0 h.listed
    slot_to (Query desc) c s ok first h =
        (same_where (codes "unable to parse query string: ") _ _ (query_slot desc s.0 s.1 c)).0 h.listed
    slot_to (Header desc) c s ok first h =
        (same_where (codes "error processing headers: ") _ _ (header_slot desc s.0 s.1 c)).0 h.listed
    slot_to (PagedQuery scan selector selector_table) c s ok first h =
        first_to scan selector selector_table c s.0 s.1 s.2 first h
    slot_to (TypedBody desc name) c s ok first h =
        (typed_slot doc table desc name request d.body_content_type s (written desc name c ok)).0 h.body
    slot_to RawBody c s ok first h = refl
    slot_to StreamBody c s ok first h = refl

    pub slot_from : (slot : Slot) → Contains d.shape.slots slot → IsShown d.body_content_type table slot
        → SlotPasses table slot → Denotes slot → SlotHolds doc request d slot
    slot_from (Path desc) c s ok told =
        record {
          listed = (same_where (codes "bad parameter in URL path: ") _ _ (path_slot desc s.0 s.1 c s.2)).1 told;
          pages = tt;
          body = tt;
        }
    slot_from (Query desc) c s ok told =
        record {
          listed = (same_where (codes "unable to parse query string: ") _ _ (query_slot desc s.0 s.1 c)).1 told;
          pages = tt;
          body = tt;
        }
    slot_from (Header desc) c s ok told =
        record {
          listed = (same_where (codes "error processing headers: ") _ _ (header_slot desc s.0 s.1 c)).1 told;
          pages = tt;
          body = tt;
        }
    slot_from (PagedQuery scan selector selector_table) c s ok told =
        page_from scan selector selector_table c s.0 s.1 s.2 told
    slot_from (TypedBody desc name) c s ok told =
        record {
          listed = refl;
          pages = tt;
          body = (typed_slot doc table desc name request d.body_content_type s (written desc name c ok)).1 told;
        }
    slot_from RawBody c s ok told = record { listed = refl; pages = tt; body = inl refl }
    slot_from StreamBody c s ok told = record { listed = refl; pages = tt; body = inl refl }
