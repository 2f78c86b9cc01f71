-- What stands in a document, by names.
use Rattle.std.specs.Prelude.{ℕ, Bool, false, ◌&&◌, List, [], ◌∷◌, Option, None, option_and_then, if◌then◌else◌, bytes_eq, codes}
use Rattle.schema_values.specs.declared.json_value.Json.{Json, out-Json}
use Rattle.schema_values.specs.declared.json_value.Member.{Member}
use Rattle.schema_values.specs.Get.{get_of, first_named}
use Rattle.request_words.specs.Prefixes.{after}
use Rattle.openapi_values.specs.Levels.{as_text, as_list, is_true, is_null}
use Rattle.openapi_values.specs.Options.{is_some_and}

-- the member of a name, of a value that may be there
abbrev pub member_in : Option Json → List ℕ → Option Json
member_in json name = option_and_then (get_of name) json

-- the schema of a name in `components.schemas` (OpenAPI 3.0.3, Components Object)
abbrev pub definition : Json → List ℕ → Option Json
definition doc name = member_in (member_in (get_of (codes "components") doc) (codes "schemas")) name

-- the name behind `#/components/schemas/` in a text
abbrev pub name_in : Option (List ℕ) → Option (List ℕ)
name_in text = option_and_then (after (codes "#/components/schemas/")) text

-- the name that a schema refers to, where `$ref` stands alone (OpenAPI 3.0.3, Reference Object)
abbrev pub reference_in : List Member → Option (List ℕ)
reference_in (m ∷ []) = if bytes_eq m.name (codes "$ref") then name_in (as_text (out-Json m.value)) else None
reference_in _ = None

-- whether a schema's member is true
abbrev pub is_set : List ℕ → List Member → Bool
is_set name schema = is_some_and (first_named name schema) (λ s. is_true (out-Json s))

-- whether a schema has the type of a name
abbrev pub is_of_type : List ℕ → List Member → Bool
is_of_type type schema = is_some_and (first_named (codes "type") schema) (λ s. is_some_and (as_text (out-Json s)) (λ name. bytes_eq name type))

-- whether a schema has the type integer
abbrev pub is_integer : List Member → Bool
is_integer schema = is_of_type (codes "integer") schema

-- null and nothing else
abbrev pub is_null_alone : List Json → Bool
is_null_alone (json ∷ []) = is_null (out-Json json)
is_null_alone _ = false

-- the form that null alone is written in: a string whose `enum` has null alone
abbrev pub is_null_form : List Member → Bool
is_null_form schema = is_of_type (codes "string") schema && is_some_and (first_named (codes "enum") schema) (λ s. is_some_and (as_list (out-Json s)) is_null_alone)
