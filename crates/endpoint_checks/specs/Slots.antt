-- How the bodies and the queries of an endpoint may stand together: rules of this library.
use Rattle.std.specs.Prelude.{◌≡◌, ◌&&◌, ◌||◌, ⊤, Bool, true, false, IsTrue, nat_lt, ℕ, List, All, Some, Contains, bytes_eq, codes, count_by}
use Rattle.std.specs.List.{list_any}
use Rattle.descriptors.specs.declared.desc.Desc.{Desc}
use Rattle.descriptors.specs.declared.desc.Field.{Field}
use Rattle.descriptors.specs.declared.table.Definition.{Definition}
use Rattle.request_parts.specs.declared.content_type.ApiEndpointBodyContentType.{ApiEndpointBodyContentType}
use Rattle.request_parts.specs.declared.content_type.ApiEndpointBodyContentType.TheVariants.{Bytes, Json, UrlEncoded, MultipartFormData}
use Rattle.handler_shapes.specs.BodySlots.{BodyComesLast}
use Rattle.handler_shapes.specs.ScalarTypes.{IsScalarType}
use Rattle.handler_shapes.specs.SlotFields.{struct_fields}
use Rattle.handler_shapes.specs.declared.slot.Slot.{Slot}
use Rattle.handler_shapes.specs.declared.slot.Slot.TheVariants as slot
use Rattle.api_declarations.specs.Values.{DeclarationValue}
use Rattle.endpoint_parameters.specs.Parameters.{fields_of_struct}

-- A slot that is not the last takes the body: two of them do, or the one that does is not the last.
abbrev pub HasEarlyBody : DeclarationValue → Type 0
HasEarlyBody e = ¬ BodyComesLast e.shape.slots

-- a struct that takes unknown names and has scalar fields alone, itself or behind references
pub record IsForm (table : List Definition) (desc : Desc) : Type 0 where
  pub fields : List Field
  pub has_fields : struct_fields table desc ≡ Some fields
  pub scalar : (field : Field) → Contains fields field → IsScalarType table field.desc

-- Under a media type a body of a type is read: under JSON any type, under that of forms a form, under the others none.
abbrev pub IsReadAs : List Definition → Desc → ApiEndpointBodyContentType → Type 0
IsReadAs table desc Json = ⊤
IsReadAs table desc UrlEncoded = IsForm table desc
IsReadAs table desc Bytes = ⊥
IsReadAs table desc MultipartFormData = ⊥

-- a slot takes a body of a type that is not read under a media type
abbrev pub TakesBadForm : List Definition → ApiEndpointBodyContentType → Slot → Type 0
TakesBadForm table kind (slot.TypedBody desc name) = ¬ IsReadAs table desc kind
TakesBadForm table kind _ = ⊥

-- a slot takes no typed body, or one of a type that is read under a media type
abbrev pub TakesReadBody : List Definition → ApiEndpointBodyContentType → Slot → Type 0
TakesReadBody table kind (slot.TypedBody desc name) = IsReadAs table desc kind
TakesReadBody table kind _ = ⊤

-- each slot does, under the endpoint's media type
abbrev pub HasReadBodies : DeclarationValue → Type 0
HasReadBodies e = All (TakesReadBody e.shape.table e.body_content_type) e.shape.slots

-- some slot takes a body of a type that is not read under the endpoint's media type
abbrev pub HasBadForm : DeclarationValue → Type 0
HasBadForm e = (slot : Slot) × Contains e.shape.slots slot × TakesBadForm e.shape.table e.body_content_type slot

-- whether a slot takes the query, in pages or not
abbrev pub takes_query : Slot → Bool
takes_query (slot.Query desc) = true
takes_query (slot.PagedQuery scan selector selector_table) = true
takes_query _ = false

-- whether a slot takes the query in pages
abbrev pub takes_pages : Slot → Bool
takes_pages (slot.PagedQuery scan selector selector_table) = true
takes_pages _ = false

-- whether a name is one that pages read themselves
abbrev pub is_page_name : List ℕ → Bool
is_page_name name = bytes_eq name (codes "limit") || bytes_eq name (codes "page_token")

-- whether a slot takes the query in pages, and its scan has such a name
abbrev pub takes_page_name : List Definition → Slot → Bool
takes_page_name table (slot.PagedQuery scan selector selector_table) =
    list_any (λ field. is_page_name field.name) (fields_of_struct table scan)
takes_page_name table _ = false

-- two slots take the query, and one of them in pages
abbrev pub has_query_beside_pages : List Slot → Bool
has_query_beside_pages slots = nat_lt 1 (count_by takes_query slots) && list_any takes_pages slots

-- a query in pages beside another, or one whose scan has a name that pages read themselves
abbrev pub HasBadPagination : DeclarationValue → Type 0
HasBadPagination e =
    IsTrue (has_query_beside_pages e.shape.slots || list_any (takes_page_name e.shape.table) e.shape.slots)
