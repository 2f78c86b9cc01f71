-- The parameters that are listed for the fields of a struct: one for each field, in the order of their names (OpenAPI
-- 3.0.3, Parameter Object; the order is this project's own).
use Rattle.std.specs.Prelude.{◌≡◌, ℕ, Bool, true, false, IsTrue, List, map, codes, Contains}
use Rattle.std.specs.List.{list_all}
use Rattle.schema_values.specs.declared.json_value.Json.{Json}
use Rattle.schema_values.specs.Order.{sorted_by}
use Rattle.request_words.specs.declared.request.WireRequest.{WireRequest}
use Rattle.openapi_values.specs.declared.parameter.Parameter.{Parameter}
use Rattle.openapi_values.specs.Listed.{listed_holds}
use Rattle.descriptors.specs.declared.desc.Desc.{Desc}
use Rattle.descriptors.specs.declared.desc.Field.{Field}
use Rattle.descriptors.specs.declared.desc.Presence.{Presence}
use Rattle.descriptors.specs.declared.desc.Presence.TheVariants.{Required, Nullable, Skipped, Default}
use Rattle.descriptors.specs.declared.table.Definition.{Definition}
use Rattle.descriptors.specs.Definitions.{field_name}
use Rattle.typed_values.specs.Schemas.{in_header, in_query}
use Rattle.typed_values.specs.SchemaTable.{schema_json}

-- whether a field must be there
abbrev pub is_required : Presence → Bool
is_required Required = true
is_required Nullable = false
is_required Skipped = false
is_required (Default tree) = false

-- a field as a parameter of a place, where `written_as` says what is written there in the place of its type: the schema has
-- neither the field's default nor its description, which stands beside it
abbrev pub parameter_of : List ℕ → (Desc → Desc) → List Definition → Field → Parameter
parameter_of place written_as table f = record {
  location = place;
  name = f.name;
  description = f.description;
  required = is_required f.presence;
  schema = schema_json table (written_as f.desc);
}

-- all fields, in the order of their names
abbrev pub field_parameters : List ℕ → (Desc → Desc) → List Definition → List Field → List Parameter
field_parameters place written_as table fields = map (parameter_of place written_as table) (sorted_by field_name fields)

-- in a path each type is written as itself
abbrev pub path_parameters : List Definition → List Field → List Parameter
path_parameters = field_parameters (codes "path") (λ desc. desc)

-- in a query an option over a reference is written as the reference alone
abbrev pub query_parameters : List Definition → List Field → List Parameter
query_parameters = field_parameters (codes "query") in_query

-- in headers an option is written as what it is over
abbrev pub header_parameters : List Definition → List Field → List Parameter
header_parameters = field_parameters (codes "header") in_header

-- each of some parameters holds of a request, by the rule of pages or by that of one name at a time in the query
abbrev pub AllHold : Json → WireRequest → Bool → List Parameter → Type 0
AllHold doc request in_pages parameters = IsTrue (list_all (listed_holds doc request in_pages) parameters)

-- each of some fields must be there
abbrev pub AllRequired : List Field → Type 0
AllRequired fields = (f : Field) → Contains fields f → f.presence ≡ Required
