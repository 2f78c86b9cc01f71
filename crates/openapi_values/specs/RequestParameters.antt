-- Whether a parameter of an operation holds of a request: by its place, its name, whether it is required, and what its
-- schema admits of a text (OpenAPI 3.0.3, Parameter Object and Parameter Locations).
use Rattle.std.specs.Prelude.{ℕ, Bool, false, ◌&&◌, not, List, [], ◌∷◌, Option, Some, None, option_and_then, if◌then◌else◌, bytes_eq, codes}
use Rattle.std.specs.BTreeMap.{get}
use Rattle.std.specs.Cmp.Lexicographic.{slice_cmp}
use Rattle.std.specs.Ordering.{nat_cmp}
use Rattle.std.specs.Str.{encode_utf8_all}
use Rattle.schema_values.specs.declared.json_value.Json.{Json, out-Json}
use Rattle.schema_values.specs.declared.variables.VariableValue.{VariableValue}
use Rattle.schema_values.specs.declared.variables.VariableValue.TheVariants.{String, Components}
use Rattle.schema_values.specs.Get.{get_of}
use Rattle.request_words.specs.declared.pairs.NamedText.{NamedText}
use Rattle.request_words.specs.declared.request.HeaderLine.{HeaderLine}
use Rattle.request_words.specs.declared.request.WireRequest.{WireRequest}
use Rattle.request_words.specs.HeaderLines.{last_line, all_shown}
use Rattle.request_words.specs.Pairs.{values_of}
use Rattle.openapi_values.specs.Levels.{as_text, is_true}
use Rattle.openapi_values.specs.Options.{is_some_and}
use Rattle.openapi_values.specs.TextAdmits.{text_admitted}

-- ---- the rule of each place, for a parameter of a name; `admitted` says what its schema admits of a text

-- in the path: a variable is one text, and admitted
abbrev pub variable_holds : (List ℕ → Bool) → VariableValue → Bool
variable_holds admitted (String text) = admitted text
variable_holds admitted (Components texts) = false

abbrev pub path_holds : WireRequest → (List ℕ → Bool) → List ℕ → Bool
path_holds request admitted name = is_some_and (get (slice_cmp nat_cmp) request.variables name) (variable_holds admitted)

-- a value is admitted where it is there, and missing only where it is not required
abbrev pub stands_or_not : (List ℕ → Bool) → Bool → Option (List ℕ) → Bool
stands_or_not admitted required None = not required
stands_or_not admitted required (Some value) = admitted value

-- in a header: the bytes of a value are visible characters, spaces and tabs, and it is admitted
abbrev pub shown_admitted : (List ℕ → Bool) → List ℕ → Bool
shown_admitted admitted value = all_shown value && admitted value

-- of the lines of the name, compared without case, the last one counts (RFC 9110, section 5.1)
abbrev pub header_holds : List HeaderLine → (List ℕ → Bool) → Bool → List ℕ → Bool
header_holds lines admitted required name = stands_or_not (shown_admitted admitted) required (last_line (encode_utf8_all name) lines)

-- in the query: the name stands at most once, and its value is admitted; it is missing only where it is not required
abbrev pub values_hold : (List ℕ → Bool) → Bool → List (List ℕ) → Bool
values_hold admitted required [] = not required
values_hold admitted required (value ∷ []) = admitted value
values_hold admitted required (value ∷ other ∷ values) = false

abbrev pub query_holds : List NamedText → (List ℕ → Bool) → Bool → List ℕ → Bool
query_holds pairs admitted required name = values_hold admitted required (values_of name pairs)

-- by the place; in any other place than these a parameter does not hold. `in_query` is the rule for those of the query
abbrev pub placed_holds : WireRequest → ((List ℕ → Bool) → Bool → List ℕ → Bool) → (List ℕ → Bool) → Bool → List ℕ → List ℕ → Bool
placed_holds request in_query admitted required name place =
    if bytes_eq place (codes "path") then path_holds request admitted name else
    (if bytes_eq place (codes "header") then header_holds request.headers admitted required name else
    (bytes_eq place (codes "query") && in_query admitted required name))

-- ---- a parameter, read from the document's JSON

-- the text that a member is
abbrev pub text_of : List ℕ → Json → Option (List ℕ)
text_of name json = option_and_then (λ member. as_text (out-Json member)) (get_of name json)

-- whether a member is true
abbrev pub is_true_at : List ℕ → Json → Bool
is_true_at name json = is_some_and (get_of name json) (λ member. is_true (out-Json member))

-- a parameter has a place, a name and a schema, and holds there
abbrev pub parameter_holds : Json → WireRequest → ((List ℕ → Bool) → Bool → List ℕ → Bool) → Json → Bool
parameter_holds doc request in_query parameter =
    is_some_and (text_of (codes "in") parameter) (λ place.
    is_some_and (text_of (codes "name") parameter) (λ name.
    is_some_and (get_of (codes "schema") parameter) (λ schema.
    placed_holds request in_query (text_admitted doc schema) (is_true_at (codes "required") parameter) name place)))

-- whether a parameter is the one of a name in the query
abbrev pub is_query_named : List ℕ → Json → Bool
is_query_named name parameter = is_some_and (text_of (codes "in") parameter) (λ place. bytes_eq place (codes "query")) && is_some_and (text_of (codes "name") parameter) (λ other. bytes_eq other name)
