-- What a schema's descriptor mentions is among what the schemas of its operation refer to.
use Rattle.std.proofs.Common.{◌≡◌, ℕ, List, Some, ◌++◌, true, ◌∙◌, ap, arith}
use Rattle.std.specs.Prelude.{Contains}
use Rattle.std.specs.BTreeMap.{is_at}
use Rattle.std.specs.List.{flat_map}
use Rattle.std.proofs.lemmas.Bool.{or_left, or_right}
use Rattle.std.proofs.lemmas.List.Folds.{list_any-append}
use Rattle.descriptors.specs.declared.desc.Desc.{Desc}
use Rattle.descriptors.specs.declared.desc.Field.{Field}
use Rattle.typed_values.specs.Reached.{Mentions}
use Rattle.typed_values.specs.Schemas.{in_header, in_query}
use Rattle.written_schemas.proofs.CallerLemmas.{in_header_stands, in_query_stands}
use Rattle.handler_shapes.specs.declared.shape.HandlerShape.{HandlerShape}
use Rattle.handler_shapes.specs.declared.slot.Slot.{Slot}
use Rattle.handler_shapes.specs.declared.slot.Slot.TheVariants.{Path, Query, Header, PagedQuery, TypedBody, RawBody}
use Rattle.handler_shapes.specs.declared.slot.Slot.TheVariants.{StreamBody}
use Rattle.endpoint_metadata.specs.Structs.{listed_fields}
use Rattle.api_documents.specs.Drawn.{shown_fields, shown_as, IsDrawn, as_body, as_parameter, in_parameter, as_content}
use Rattle.api_documents.specs.Drawn.{as_header, in_response_header, as_error}
use Rattle.api_documents.specs.ErrorNames.{listed_error}
use Rattle.api_documents.specs.Ordered.{text_order, is_among}
use Rattle.api_documents.specs.References.{Names, roots_of_slot, roots_of_content, roots_of_headers, roots_of_error}
use Rattle.api_documents.specs.References.{roots_of}
use Rattle.api_documents.proofs.Among.{any_contained, among_joined}
use Rattle.api_documents.proofs.ReferenceRows.{in_fields, mentioned}

-- ---- what is shown of a type mentions nothing that the type does not

header_mentions : (d : Desc) (name : List ℕ) → Mentions (in_header d) name → Mentions d name
header_mentions d name (x, s, e) = (x, in_header_stands d x s, e)

query_mentions : (d : Desc) (name : List ℕ) → Mentions (in_query d) name → Mentions d name
query_mentions d name (x, s, e) = (x, in_query_stands d x s, e)

slot_mentions : (slot : Slot) (d : Desc) (name : List ℕ) → Mentions (shown_as slot d) name → Mentions d name
slot_mentions (Path desc) d name m = m
slot_mentions (Query desc) d name m = query_mentions d name m
slot_mentions (Header desc) d name m = header_mentions d name m
slot_mentions (PagedQuery scan selector selector_table) d name m = query_mentions d name m
slot_mentions (TypedBody desc type) d name m = m
slot_mentions RawBody d name m = m
slot_mentions StreamBody d name m = m

-- ---- what is mentioned is among the roots

module _ (shape : HandlerShape) (name : List ℕ) where
  in_first : (xs ys : Names) → is_among name xs ≡ true → is_among name (xs ++ ys) ≡ true
  in_first xs ys h = list_any-append (is_at (text_order name)) xs ys ∙ or_left _ _ h

  in_second : (xs ys : Names) → is_among name ys ≡ true → is_among name (xs ++ ys) ≡ true
  in_second xs ys h = list_any-append (is_at (text_order name)) xs ys ∙ or_right _ _ h

  in_slot : (slot : Slot) → Contains shape.slots slot → is_among name (roots_of_slot shape.table slot) ≡ true
      → is_among name (roots_of shape) ≡ true
  in_slot slot c h =
      in_first (flat_map (roots_of_slot shape.table) shape.slots) _
      (among_joined name (roots_of_slot shape.table) shape.slots
      ∙ any_contained (λ s. is_among name (roots_of_slot shape.table s)) shape.slots slot c h)

  in_shown : (slot : Slot) (f : Field) → Contains (shown_fields shape.table slot) f → Mentions f.desc name
      → is_among name (roots_of_slot shape.table slot) ≡ true
  in_shown (Path desc) f c m = in_fields name (listed_fields shape.table desc) f c (mentioned name f.desc m)
  in_shown (Query desc) f c m = in_fields name (listed_fields shape.table desc) f c (mentioned name f.desc m)
  in_shown (Header desc) f c m = in_fields name (listed_fields shape.table desc) f c (mentioned name f.desc m)
  in_shown (PagedQuery scan selector selector_table) f c m =
      in_fields name (listed_fields shape.table scan) f c (mentioned name f.desc m)
  in_shown (TypedBody desc type) f c m = absurd (omega (arith, c.1))
  in_shown RawBody f c m = absurd (omega (arith, c.1))
  in_shown StreamBody f c m = absurd (omega (arith, c.1))

  behind_slots : is_among name
      (roots_of_content shape.response.content
      ++ (roots_of_headers shape.table shape.response.headers ++ roots_of_error (listed_error shape))) ≡ true
      → is_among name (roots_of shape) ≡ true
  behind_slots h = in_second (flat_map (roots_of_slot shape.table) shape.slots) _ h

  behind_content : is_among name
      (roots_of_headers shape.table shape.response.headers ++ roots_of_error (listed_error shape)) ≡ true
      → is_among name (roots_of shape) ≡ true
  behind_content h = behind_slots (in_second (roots_of_content shape.response.content) _ h)

  in_headers : (struct : Desc) (f : Field) → shape.response.headers ≡ Some struct
      → Contains (listed_fields shape.table struct) f → Mentions f.desc name → is_among name (roots_of shape) ≡ true
  in_headers struct f is c m =
      behind_content (in_first (roots_of_headers shape.table shape.response.headers) _
      (ap (λ headers. is_among name (roots_of_headers shape.table headers)) is
      ∙ in_fields name (listed_fields shape.table struct) f c (mentioned name f.desc m)))

  pub in_roots : (desc : Desc) → IsDrawn shape desc → Mentions desc name → is_among name (roots_of shape) ≡ true
  in_roots desc (as_body _ type c) m = in_slot (TypedBody desc type) c (mentioned name desc m)
  in_roots desc (as_parameter slot f c k) m = in_slot slot c (in_shown slot f k m)
  in_roots desc (in_parameter slot f c k) m = in_slot slot c (in_shown slot f k (slot_mentions slot f.desc name m))
  in_roots desc (as_content _ type is) m =
      behind_slots
      (in_first (roots_of_content shape.response.content) _
      (ap (λ content. is_among name (roots_of_content content)) is ∙ mentioned name desc m))
  in_roots desc (as_header struct f is c) m = in_headers struct f is c m
  in_roots desc (in_response_header struct f is c) m = in_headers struct f is c (query_mentions f.desc name m)
  in_roots desc (as_error error is) m =
      behind_content
      (in_second (roots_of_headers shape.table shape.response.headers) _
      (ap (λ o. is_among name (roots_of_error o)) is ∙ mentioned name error.desc m))
