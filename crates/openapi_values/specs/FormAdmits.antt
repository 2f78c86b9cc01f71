-- What a schema admits of the pairs of a form (OpenAPI 3.0.3, Media Type Object, Support for x-www-form-urlencoded
-- Request Bodies).
use Rattle.std.specs.Prelude.{ℕ, zero, suc, Bool, false, ◌&&◌, IsTrue, List, [], ◌∷◌, Option, Some, None, option_and_then, codes}
use Rattle.std.specs.List.{list_all}
use Rattle.std.specs.Option.{option_map_or}
use Rattle.schema_values.specs.declared.json_value.Json.{Json, out-Json}
use Rattle.schema_values.specs.declared.json_value.Member.{Member}
use Rattle.schema_values.specs.Get.{first_named}
use Rattle.request_words.specs.declared.pairs.NamedText.{NamedText}
use Rattle.request_words.specs.Pairs.{values_of}
use Rattle.openapi_values.specs.Levels.{as_list, as_object}
use Rattle.openapi_values.specs.Lookup.{definition, reference_in, is_of_type}
use Rattle.openapi_values.specs.Options.{is_some_and, is_none_or}
use Rattle.openapi_values.specs.Pages.{required_stand}
use Rattle.openapi_values.specs.RequestParameters.{values_hold}
use Rattle.openapi_values.specs.Room.{room}
use Rattle.openapi_values.specs.TextAdmits.{text_admitted}

-- ---- the schema behind `$ref` and behind `allOf` of one

-- the one schema of a list
abbrev pub only_schema : List Json → Option Json
only_schema (schema ∷ []) = Some schema
only_schema _ = None

-- `$ref` alone leads to its definition, and `allOf` of one to its schema; any other schema is there
abbrev pub resolved_step : Json → (Json → Option (List Member)) → List Member → Option (List Member)
resolved_step doc next schema =
    option_map_or (λ name. option_and_then next (definition doc name)) (reference_in schema)
    (option_map_or (λ all. option_and_then next (option_and_then only_schema (as_list (out-Json all)))) (first_named (codes "allOf") schema)
    (Some schema))

-- the members of the schema that is led to, with so many steps left
unfoldable pub resolved_within : Json → ℕ → Json → Option (List Member)
resolved_within doc zero schema = None
resolved_within doc (suc n) schema = option_and_then (resolved_step doc (resolved_within doc n)) (as_object (out-Json schema))

-- the members of the schema that a schema of a document leads to
abbrev pub resolved_schema : Json → Json → Option (List Member)
resolved_schema doc schema = resolved_within doc (room doc schema) schema

-- ---- the fields of a form

-- the name of each property stands at most once, and its value is admitted where it stands
abbrev pub properties_hold : Json → List NamedText → List Member → Bool
properties_hold doc pairs properties = list_all (λ property. values_hold (text_admitted doc property.value) false (values_of property.name pairs)) properties

-- the schema is that of an object, whose properties hold, and each required name stands; other names may stand
abbrev pub object_holds : Json → List NamedText → List Member → Bool
object_holds doc pairs schema =
    is_of_type (codes "object") schema
    && (is_none_or (first_named (codes "properties") schema) (λ properties. is_some_and (as_object (out-Json properties)) (properties_hold doc pairs))
    && required_stand pairs (first_named (codes "required") schema))

-- whether a schema of a document admits the pairs of a form
abbrev pub form_admitted : Json → Json → List NamedText → Bool
form_admitted doc schema pairs = is_some_and (resolved_schema doc schema) (object_holds doc pairs)

abbrev pub FormAdmits : Json → Json → List NamedText → Type 0
FormAdmits doc schema pairs = IsTrue (form_admitted doc schema pairs)
