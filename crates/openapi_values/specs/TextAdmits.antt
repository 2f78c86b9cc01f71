-- What a schema admits of a text: of a variable of a path, or of a value in a query (OpenAPI 3.0.3, Parameter Object
-- and Schema Object).
use Rattle.std.specs.Prelude.{ℕ, zero, suc, Bool, false, ◌&&◌, ◌||◌, not, IsTrue, List, [], ◌∷◌, is_some, if◌then◌else◌, bytes_eq, codes}
use Rattle.std.specs.Option.{option_map_or}
use Rattle.schema_values.specs.declared.json_value.Json.{Json, Int, Text, out-Json}
use Rattle.schema_values.specs.declared.json_value.Member.{Member}
use Rattle.schema_values.specs.Get.{first_named}
use Rattle.request_words.specs.Numbers.{has_minus, number_of}
use Rattle.request_words.specs.Prefixes.{after}
use Rattle.openapi_values.specs.Levels.{as_text, as_list, as_object}
use Rattle.openapi_values.specs.Lookup.{definition, reference_in, is_of_type}
use Rattle.openapi_values.specs.JsonAdmits.{admits_within}
use Rattle.openapi_values.specs.Options.{is_some_and}
use Rattle.openapi_values.specs.Room.{room}
use Rattle.openapi_values.specs.Rows.{one_admits}

-- whether a schema has a format of numbers without a sign
abbrev pub is_unsigned : List Member → Bool
is_unsigned schema = is_some_and (first_named (codes "format") schema) (λ s. is_some_and (as_text (out-Json s)) (λ name. is_some (after (codes "uint") name)))

-- whether a schema of a document admits a JSON value
abbrev pub json_admitted : Json → Json → Json → Bool
json_admitted doc schema json = admits_within doc (room doc schema) json (room doc schema) schema

-- a text as a value of the type that the schema has, of which `admitted` says whether it is admitted; of any other
-- type no text is
abbrev pub typed_admits : (Json → Bool) → List Member → List ℕ → Bool
typed_admits admitted schema text =
    if is_of_type (codes "boolean") schema then bytes_eq (codes "true") text || bytes_eq (codes "false") text else
    (if is_of_type (codes "integer") schema then not (is_unsigned schema && has_minus text) && is_some_and (number_of text) (λ n. admitted (Int n)) else
    (is_of_type (codes "string") schema && admitted (Text text)))

-- the one schema of a list admits
abbrev pub only_admits : (Json → Bool) → List Json → Bool
only_admits next (schema ∷ []) = next schema
only_admits next _ = false

-- by its `oneOf`, of which exactly one admits, else by its type
abbrev pub one_or_typed : Json → (Json → Bool) → List ℕ → Json → List Member → Bool
one_or_typed doc next text s schema = option_map_or (one_admits next) (first_named (codes "oneOf") schema) (typed_admits (json_admitted doc s) schema text)

-- by its `allOf` of one, else by these; nothing else counts
abbrev pub form_admits : Json → (Json → Bool) → List ℕ → Json → List Member → Bool
form_admits doc next text s schema =
    option_map_or (λ all. is_some_and (as_list (out-Json all)) (only_admits next)) (first_named (codes "allOf") schema) (one_or_typed doc next text s schema)

-- a reference admits what its definition does
abbrev pub reference_or_form : Json → (Json → Bool) → List ℕ → Json → List Member → Bool
reference_or_form doc next text s schema = option_map_or (λ name. is_some_and (definition doc name) next) (reference_in schema) (form_admits doc next text s schema)

-- a schema that is no object admits nothing
abbrev pub text_step : Json → (Json → Bool) → List ℕ → Json → Bool
text_step doc next text s = is_some_and (as_object (out-Json s)) (reference_or_form doc next text s)

-- whether a text is admitted, with so many steps left; with none nothing is
unfoldable pub text_within : Json → List ℕ → ℕ → Json → Bool
text_within doc text zero s = false
text_within doc text (suc n) s = text_step doc (text_within doc text n) text s

-- whether a schema of a document admits a text
abbrev pub text_admitted : Json → Json → List ℕ → Bool
text_admitted doc schema text = text_within doc text (room doc schema) schema

abbrev pub TextAdmits : Json → Json → List ℕ → Type 0
TextAdmits doc schema text = IsTrue (text_admitted doc schema text)
