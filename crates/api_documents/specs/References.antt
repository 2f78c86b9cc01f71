-- The definitions that the schemas of a document refer to, directly or through others (OpenAPI 3.0.3, Reference
-- Object).
use Rattle.std.specs.Prelude.{ℕ, zero, suc, List, [], ◌∷◌, ◌++◌, filter, length, Option, Some, None, if◌then◌else◌}
use Rattle.std.specs.List.{flat_map}
use Rattle.std.specs.Option.{option_map_or}
use Rattle.descriptors.specs.declared.desc.Desc.{Desc}
use Rattle.descriptors.specs.declared.desc.Desc.TheOpen.{Desc-F, Field-F, TaggedVariant-F, Variant-F}
use Rattle.descriptors.specs.declared.desc.Desc.TheFolds.{fold-Desc}
use Rattle.descriptors.specs.declared.desc.Field.{Field}
use Rattle.descriptors.specs.declared.desc.TaggedVariant.{TaggedVariant}
use Rattle.descriptors.specs.declared.desc.Variant.{Variant}
use Rattle.descriptors.specs.declared.table.Definition.{Definition}
use Rattle.descriptors.specs.Definitions.{tagged_fields}
use Rattle.handler_shapes.specs.declared.shape.ApiEndpointErrorResponse.{ApiEndpointErrorResponse}
use Rattle.handler_shapes.specs.declared.shape.ContentShape.{ContentShape}
use Rattle.handler_shapes.specs.declared.shape.ContentShape.TheVariants as contents
use Rattle.handler_shapes.specs.declared.shape.HandlerShape.{HandlerShape}
use Rattle.handler_shapes.specs.declared.slot.Slot.{Slot}
use Rattle.handler_shapes.specs.declared.slot.Slot.TheVariants.{Path, Query, Header, PagedQuery, TypedBody, RawBody}
use Rattle.handler_shapes.specs.declared.slot.Slot.TheVariants.{StreamBody}
use Rattle.endpoint_metadata.specs.Structs.{listed_fields}
use Rattle.api_documents.specs.ErrorNames.{listed_error}
use Rattle.api_documents.specs.Ordered.{in_text_order, is_among, with_texts}

-- some names
abbrev pub Names : Type 0
Names = List (List ℕ)

-- all of some lists of names
abbrev pub all_names : List Names → Names
all_names = flat_map (λ names. names)

-- ---- the references that stand in a descriptor

-- those of a level of a descriptor
abbrev pub references_step : Desc-F Names Names Names Names → Names
references_step (Desc-F.Option names) = names
references_step (Desc-F.List names min max) = names
references_step (Desc-F.Map names) = names
references_step (Desc-F.Struct names deny) = all_names names
references_step (Desc-F.External names) = all_names names
references_step (Desc-F.Tagged tag names) = all_names names
references_step (Desc-F.Untagged names) = all_names names
references_step (Desc-F.Ref name) = name ∷ []
references_step _ = []

-- those of a field are those of its type
abbrev pub references_of_field : Field-F Names Names Names Names → Names
references_of_field field = field.desc

-- those of a tagged variant are those of its fields
abbrev pub references_of_tagged : TaggedVariant-F Names Names Names Names → Names
references_of_tagged variant = all_names variant.fields

-- those of a variant are those of its payload
abbrev pub references_of_variant : Variant-F Names Names Names Names → Names
references_of_variant variant = of_payload variant.payload where
  of_payload : Option Names → Names
  of_payload None = []
  of_payload (Some names) = names

-- the names of all references that stand in a descriptor
abbrev pub references : Desc → Names
references =
    fold-Desc Names Names Names Names
    references_step references_of_field references_of_tagged references_of_variant

-- those of the payload of a variant
abbrev pub references_in_variant : Variant → Names
references_in_variant variant = option_map_or references variant.payload []

-- those of fields
abbrev pub references_in_fields : List Field → Names
references_in_fields = flat_map (λ (field : Field). references field.desc)

-- those of the fields of a tagged variant
abbrev pub references_in_tagged : TaggedVariant → Names
references_in_tagged variant = references_in_fields (tagged_fields variant)

-- ---- what names lead to

-- the names that the definitions of some names refer to
abbrev pub referred_by : Names → List Definition → Names
referred_by names = flat_map (λ (e : Definition). if is_among e.name names then references e.desc else [])

-- some names, and those that they refer to
abbrev pub with_referred : List Definition → Names → Names
with_referred table names = with_texts names (referred_by names table)

-- the names that some names lead to within so many steps, in order, each once
abbrev pub reached_within : List Definition → Names → ℕ → Names
reached_within table roots zero = in_text_order roots
reached_within table roots (suc n) = with_referred table (reached_within table roots n)

-- ---- what the schemas of an operation refer to

-- those of a slot: of parameters each field has a schema, and the struct itself has none
abbrev pub roots_of_slot : List Definition → Slot → Names
roots_of_slot table (Path desc) = references_in_fields (listed_fields table desc)
roots_of_slot table (Query desc) = references_in_fields (listed_fields table desc)
roots_of_slot table (Header desc) = references_in_fields (listed_fields table desc)
roots_of_slot table (PagedQuery scan selector selector_table) = references_in_fields (listed_fields table scan)
roots_of_slot table (TypedBody desc name) = references desc
roots_of_slot table RawBody = []
roots_of_slot table StreamBody = []

-- those of a content
abbrev pub roots_of_content : ContentShape → Names
roots_of_content (contents.Json desc name) = references desc
roots_of_content contents.Empty = []
roots_of_content contents.Freeform = []

-- those of the headers of a response
abbrev pub roots_of_headers : List Definition → Option Desc → Names
roots_of_headers table None = []
roots_of_headers table (Some desc) = references_in_fields (listed_fields table desc)

-- those of the error that is listed
abbrev pub roots_of_error : Option ApiEndpointErrorResponse → Names
roots_of_error None = []
roots_of_error (Some error) = references error.desc

-- those of an operation: of its slots, of its success, and of its error
abbrev pub roots_of : HandlerShape → Names
roots_of shape =
    flat_map (roots_of_slot shape.table) shape.slots
    ++ (roots_of_content shape.response.content
    ++ (roots_of_headers shape.table shape.response.headers ++ roots_of_error (listed_error shape)))

-- the names that they lead to: as many steps as there are definitions suffice, since a longer way meets one twice
abbrev pub reached_names : HandlerShape → Names
reached_names shape = reached_within shape.table (roots_of shape) (length shape.table)

-- the definitions that they refer to, directly or through others
abbrev pub reached_definitions : HandlerShape → List Definition
reached_definitions shape = filter (λ (e : Definition). is_among e.name (reached_names shape)) shape.table
