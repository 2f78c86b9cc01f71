-- The slots of which a document says what requests denote. Those of accepted endpoints that it shows are such.
use Rattle.std.specs.Prelude.{⊤, List, All, AllPairs, codes}
use Rattle.descriptors.specs.declared.desc.Desc.{Desc}
use Rattle.descriptors.specs.declared.desc.Field.{Field}
use Rattle.descriptors.specs.declared.table.Definition.{Definition}
use Rattle.written_texts.specs.FieldParameters.{AllRequired}
use Rattle.written_texts.specs.FlatStructs.{IsFlatStruct}
use Rattle.written_texts.specs.PageParameters.{NoneNamed}
use Rattle.request_parts.specs.declared.content_type.ApiEndpointBodyContentType.{ApiEndpointBodyContentType}
use Rattle.request_parts.specs.declared.content_type.ApiEndpointBodyContentType.TheVariants as kinds
use Rattle.handler_shapes.specs.declared.slot.Slot.{Slot}
use Rattle.handler_shapes.specs.declared.slot.Slot.TheVariants.{Path, Query, Header, PagedQuery}
use Rattle.handler_shapes.specs.declared.slot.Slot.TheVariants.{TypedBody, RawBody, StreamBody}
use Rattle.handler_shapes.specs.BodySlots.{BodyComesLast}
use Rattle.api_declarations.specs.Values.{DeclarationValue}

-- a descriptor is, or leads to, a struct of scalar fields that takes unknown names, and something holds of the fields
abbrev pub HasFlatFields : List Definition → Desc → (List Field → Type 0) → Type 0
HasFlatFields table desc Fact = (fields : List Field) × IsFlatStruct table desc fields × Fact fields

-- nothing more is asked of the fields
abbrev pub AnyFields : List Field → Type 0
AnyFields fields = ⊤

-- no field is named as what pages ask for
pub record AreScanned (fields : List Field) : Type 0 where
  pub no_limit : NoneNamed (codes "limit") fields
  pub no_token : NoneNamed (codes "page_token") fields

-- a typed body is JSON of any type, or a form of scalar fields
abbrev pub IsBodyType : List Definition → Desc → ApiEndpointBodyContentType → Type 0
IsBodyType table desc kinds.Json = ⊤
IsBodyType table desc kinds.UrlEncoded = HasFlatFields table desc AnyFields
IsBodyType table desc kinds.Bytes = ⊥
IsBodyType table desc kinds.MultipartFormData = ⊥

-- a document says what a slot takes: each field of a path must be there
abbrev pub IsShown : ApiEndpointBodyContentType → List Definition → Slot → Type 0
IsShown kind table (Path desc) = HasFlatFields table desc AllRequired
IsShown kind table (Query desc) = HasFlatFields table desc AnyFields
IsShown kind table (Header desc) = HasFlatFields table desc AnyFields
IsShown kind table (PagedQuery scan selector selector_table) = HasFlatFields table scan AreScanned
IsShown kind table (TypedBody desc name) = IsBodyType table desc kind
IsShown kind table RawBody = ⊤
IsShown kind table StreamBody = ⊤

-- a slot reads the query
abbrev pub IsOfQuery : Slot → Type 0
IsOfQuery (Query desc) = ⊤
IsOfQuery (PagedQuery scan selector selector_table) = ⊤
IsOfQuery slot = ⊥

-- a slot reads the query in pages
abbrev pub IsOfPages : Slot → Type 0
IsOfPages (PagedQuery scan selector selector_table) = ⊤
IsOfPages slot = ⊥

-- of two slots, where one reads the query in pages, the other does not read it
pub record ReadApart (slot other : Slot) : Type 0 where
  pub first : IsOfPages slot → ¬ IsOfQuery other
  pub second : IsOfPages other → ¬ IsOfQuery slot

-- what an endpoint meets of which a document says what its requests denote: a slot of pages is alone among those of the
-- query, and one slot at most takes the body, the last one
pub record HasShownSlots (d : DeclarationValue) : Type 0 where
  pub each : All (IsShown d.body_content_type d.shape.table) d.shape.slots
  pub pages : AllPairs ReadApart d.shape.slots
  pub last : BodyComesLast d.shape.slots
