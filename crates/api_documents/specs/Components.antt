-- What the operations of a document refer to (OpenAPI 3.0.3, Components Object), in the order of names. `ds` are the
-- endpoints that the document lists, and `named` the errors of the document under their names.
use Rattle.std.specs.Prelude.{ℕ, List, [], map, Some, None, codes}
use Rattle.std.specs.List.{flat_map}
use Rattle.schema_values.specs.declared.json_value.Json.{Json}
use Rattle.openapi_values.specs.declared.document.Components.{Components}
use Rattle.openapi_values.specs.declared.media.ResponseObject.{ResponseObject}
use Rattle.descriptors.specs.declared.table.Definition.{Definition}
use Rattle.typed_values.specs.SchemaTable.{schema_json_described, schema_json_titled}
use Rattle.api_declarations.specs.Values.{DeclarationValue}
use Rattle.api_documents.specs.Bodies.{media}
use Rattle.api_documents.specs.ErrorNames.{NamedErrorValue}
use Rattle.api_documents.specs.Ordered.{by_name}
use Rattle.api_documents.specs.References.{reached_definitions}

-- the response of an error, in full: it is described by its name, and its schema has the name of the type as title
-- unless it is a reference
abbrev pub error_object : NamedErrorValue → ResponseObject
error_object n = record {
  description = Some n.name;
  headers = [];
  content = media (codes "application/json") (schema_json_titled n.table n.error.name n.error.desc);
  reference = None;
}

-- the same under its name
abbrev pub error_entry : NamedErrorValue → List ℕ × ResponseObject
error_entry n = (n.name, error_object n)

-- a definition's name, and its schema with its description
abbrev pub schema_entry : List Definition → Definition → List ℕ × Json
schema_entry table e = (e.name, schema_json_described table e.description e.desc)

-- the definitions that the schemas of an operation refer to, each with its schema
abbrev pub schema_entries : DeclarationValue → List (List ℕ × Json)
schema_entries d = map (schema_entry d.shape.table) (reached_definitions d.shape)

-- The responses of errors, and the definitions that operations refer to. Of accepted endpoints definitions of one name
-- are the same; else that of the first endpoint stands.
abbrev pub components_of : List NamedErrorValue → List DeclarationValue → Components
components_of named ds = record {
  responses = by_name (map error_entry named);
  schemas = by_name (flat_map schema_entries ds);
}
