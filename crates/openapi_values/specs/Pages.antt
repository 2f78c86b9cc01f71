-- The query of an operation that answers in pages, which has the extension `x-dropshot-pagination` (OpenAPI 3.0.3,
-- Specification Extensions). A request for the first page has no pair `page_token`; one for a later page has one, which
-- stands for all that the first one asked for.
use Rattle.std.specs.Prelude.{ℕ, Bool, false, ◌&&◌, ◌||◌, not, List, Option, if◌then◌else◌, bytes_eq, codes}
use Rattle.std.specs.List.{list_all}
use Rattle.schema_values.specs.declared.json_value.Json.{Json, out-Json}
use Rattle.request_words.specs.declared.pairs.NamedText.{NamedText}
use Rattle.request_words.specs.Pairs.{values_of, last_value, has_pair}
use Rattle.openapi_values.specs.Levels.{as_text, as_list}
use Rattle.openapi_values.specs.Options.{is_some_and, is_none_or}
use Rattle.openapi_values.specs.RequestParameters.{stands_or_not, values_hold, query_holds}

-- ---- what a listed parameter of the query asks

-- whether a request is for a later page
abbrev pub has_token : List NamedText → Bool
has_token pairs = has_pair pairs (codes "page_token")

-- for a later page no name but the token is read, beside `limit`
abbrev pub is_read : List NamedText → List ℕ → Bool
is_read pairs name = bytes_eq name (codes "page_token") || not (has_token pairs)

-- `limit` stands at most once, and is admitted where it stands; so is the last value of another name that is read
abbrev pub page_query_holds : List NamedText → (List ℕ → Bool) → Bool → List ℕ → Bool
page_query_holds pairs admitted required name =
    if bytes_eq name (codes "limit") then values_hold admitted false (values_of name pairs) else
    (not (is_read pairs name) || stands_or_not admitted false (last_value name pairs))

-- the rule for the parameters of a query: that of pages, or that of one name at a time
abbrev pub query_rule : Bool → List NamedText → (List ℕ → Bool) → Bool → List ℕ → Bool
query_rule in_pages pairs = if in_pages then page_query_holds pairs else query_holds pairs

-- ---- what the operation asks besides; `lists` says which names of the query it lists

-- a name that stands is listed
abbrev pub listed_if_there : (List ℕ → Bool) → List NamedText → List ℕ → Bool
listed_if_there lists pairs name = lists name || not (has_pair pairs name)

-- `limit` and `page_token` are listed where they stand, and for the first page what is `required` is there
abbrev pub pages_hold : (List ℕ → Bool) → Bool → List NamedText → Bool
pages_hold lists required pairs =
    listed_if_there lists pairs (codes "limit") && (listed_if_there lists pairs (codes "page_token") && (has_token pairs || required))

-- ---- the names under `required`, of the extension or of the schema of a form, read from the document's JSON

-- a text that is the name of a pair
abbrev pub name_stands : List NamedText → Json → Bool
name_stands pairs name = is_some_and (as_text (out-Json name)) (has_pair pairs)

-- each of the names stands; where there is no list of names none is asked for, and where it is no list of texts none will do
abbrev pub required_stand : List NamedText → Option Json → Bool
required_stand pairs names = is_none_or names (λ names. is_some_and (as_list (out-Json names)) (list_all (name_stands pairs)))
