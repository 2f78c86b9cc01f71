-- How the parameters of requests and the headers of responses are written.
use Rattle.std.specs.Prelude.{List, [], ◌∷◌, Some, option_map, codes}
use Rattle.schema_values.specs.declared.json_value.Json.{Json, Text}
use Rattle.openapi_values.specs.declared.parameter.HeaderObject.{HeaderObject}
use Rattle.openapi_values.specs.declared.parameter.Parameter.{Parameter}
use Rattle.openapi_values.specs.IfTrue.{if_true}
use Rattle.openapi_values.specs.Objects.{Entry, object_of}

-- the place and the name, the description, `required` where it is true, and the schema
abbrev pub parameter_entries : Parameter → List Entry
parameter_entries p =
    (codes "in", Some (Text p.location))
    ∷ (codes "name", Some (Text p.name))
    ∷ (codes "description", option_map Text p.description)
    ∷ (codes "required", if_true p.required)
    ∷ (codes "schema", Some p.schema)
    ∷ []

-- a parameter of a request (OpenAPI 3.0.3, Parameter Object)
unfoldable pub parameter_json : Parameter → Json
parameter_json p = object_of (parameter_entries p)

-- the description, the style, `required` where it is true, and the schema
abbrev pub header_entries : HeaderObject → List Entry
header_entries h =
    (codes "description", option_map Text h.description)
    ∷ (codes "style", Some (Text h.style))
    ∷ (codes "required", if_true h.required)
    ∷ (codes "schema", Some h.schema)
    ∷ []

-- a header of a response (OpenAPI 3.0.3, Header Object)
unfoldable pub header_json : HeaderObject → Json
header_json h = object_of (header_entries h)
