-- The parameters that an endpoint takes in its path, in the query and in headers (OpenAPI 3.0.3, Parameter Object): the
-- fields of the structs that its slots resolve to.
use Rattle.std.specs.Prelude.{ℕ, Bool, true, false, List, [], map, filter, Option, Some, None, bytes_eq}
use Rattle.std.specs.List.{flat_map}
use Rattle.std.specs.Str.{encode_utf8_all}
use Rattle.descriptors.specs.declared.desc.Desc.{Desc, out-Desc}
use Rattle.descriptors.specs.declared.desc.Desc.TheOpen.{Desc-F}
use Rattle.descriptors.specs.declared.desc.Field.{Field}
use Rattle.descriptors.specs.declared.table.Definition.{Definition}
use Rattle.typed_values.specs.Levels.{DescLevel}
use Rattle.request_words.specs.HeaderLines.{lower}
use Rattle.flat_maps.specs.Flat.{resolved}
use Rattle.handler_shapes.specs.declared.shape.HandlerShape.{HandlerShape}
use Rattle.handler_shapes.specs.declared.slot.Slot.{Slot}
use Rattle.handler_shapes.specs.declared.slot.Slot.TheVariants as slot

-- a field that a request gives in its path, in the query or in its headers
pub data Parameter : Type 0 where
  in_path : Field → Parameter
  in_query : Field → Parameter
  in_header : Field → Parameter

-- the field of a parameter
abbrev pub field_of : Parameter → Field
field_of (in_path field) = field
field_of (in_query field) = field
field_of (in_header field) = field

-- the name of a parameter
abbrev pub name_of : Parameter → List ℕ
name_of parameter = (field_of parameter).name

-- the fields of a struct, whether it takes unknown names or not; nothing else has any
abbrev pub fields_of_level : DescLevel → List Field
fields_of_level (Desc-F.Struct fields deny_unknown) = fields
fields_of_level _ = []

-- the fields of what references lead to, if they lead anywhere
abbrev pub fields_of_resolved : Option Desc → List Field
fields_of_resolved None = []
fields_of_resolved (Some desc) = fields_of_level (out-Desc desc)

-- the fields of the struct that a descriptor is, or that references lead to
abbrev pub fields_of_struct : List Definition → Desc → List Field
fields_of_struct table desc = fields_of_resolved (resolved table desc)

-- the parameters of a slot; a query in pages has the fields of its scan
abbrev pub parameters_of_slot : List Definition → Slot → List Parameter
parameters_of_slot table (slot.Path desc) = map in_path (fields_of_struct table desc)
parameters_of_slot table (slot.Query desc) = map in_query (fields_of_struct table desc)
parameters_of_slot table (slot.Header desc) = map in_header (fields_of_struct table desc)
parameters_of_slot table (slot.PagedQuery scan selector selector_table) = map in_query (fields_of_struct table scan)
parameters_of_slot table _ = []

-- the parameters of a shape, in the order of its slots and of their fields
abbrev pub parameters : HandlerShape → List Parameter
parameters shape = flat_map (parameters_of_slot shape.table) shape.slots

-- whether a request gives a parameter in its path
abbrev pub is_in_path : Parameter → Bool
is_in_path (in_path field) = true
is_in_path _ = false

-- whether a request gives a parameter in the query
abbrev pub is_in_query : Parameter → Bool
is_in_query (in_query field) = true
is_in_query _ = false

-- whether a request gives a parameter in its headers
abbrev pub is_in_header : Parameter → Bool
is_in_header (in_header field) = true
is_in_header _ = false

-- the names of those in the path
abbrev pub path_names : List Parameter → List (List ℕ)
path_names ps = map name_of (filter is_in_path ps)

-- the names of those in the query
abbrev pub query_names : List Parameter → List (List ℕ)
query_names ps = map name_of (filter is_in_query ps)

-- whether two names are one without case, as those of headers are compared (RFC 9110, section 5.1), by their bytes
abbrev pub is_same_header : List ℕ → List ℕ → Bool
is_same_header name other = bytes_eq (lower (encode_utf8_all name)) (lower (encode_utf8_all other))

-- whether two parameters stand in one place under one name; names of headers are compared without case
abbrev pub is_same_parameter : Parameter → Parameter → Bool
is_same_parameter (in_path field) (in_path other) = bytes_eq field.name other.name
is_same_parameter (in_query field) (in_query other) = bytes_eq field.name other.name
is_same_parameter (in_header field) (in_header other) = is_same_header field.name other.name
is_same_parameter _ _ = false
