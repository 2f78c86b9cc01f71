-- Which requests hold of an operation of a document's types: parameter by parameter, and of its body.
use Rattle.std.specs.Prelude.{◌⊎◌, ℕ, Bool, ◌&&◌, List, IfSome, IsSome, IsSomeAnd, IsTrue, is_some, bytes_eq, codes}
use Rattle.std.specs.List.{list_all, list_any}
use Rattle.schema_values.specs.declared.json_value.Json.{Json}
use Rattle.request_words.specs.declared.request.WireRequest.{WireRequest}
use Rattle.request_words.specs.Pairs.{query_pairs, has_pair}
use Rattle.openapi_values.specs.declared.media.RequestBody.{RequestBody}
use Rattle.openapi_values.specs.declared.operation.Operation.{Operation}
use Rattle.openapi_values.specs.declared.parameter.Parameter.{Parameter}
use Rattle.openapi_values.specs.Find.{value_at}
use Rattle.openapi_values.specs.Options.{is_none_or}
use Rattle.openapi_values.specs.Pages.{query_rule, pages_hold}
use Rattle.openapi_values.specs.RequestBodies.{IsJsonOf, IsFormOf}
use Rattle.openapi_values.specs.RequestParameters.{placed_holds}
use Rattle.openapi_values.specs.TextAdmits.{text_admitted}

-- a listed parameter holds in its place
abbrev pub listed_holds : Json → WireRequest → Bool → Parameter → Bool
listed_holds doc request in_pages p = placed_holds request (query_rule in_pages (query_pairs request.query)) (text_admitted doc p.schema) p.required p.name p.location

-- whether parameters list a name of the query
abbrev pub lists_name : List Parameter → List ℕ → Bool
lists_name parameters name = list_any (λ p. bytes_eq p.location (codes "query") && bytes_eq p.name name) parameters

-- what an operation in pages asks besides, of which the first page has these names
abbrev pub listed_pages_hold : WireRequest → List Parameter → List (List ℕ) → Bool
listed_pages_hold request parameters names = pages_hold (lists_name parameters) (list_all (has_pair (query_pairs request.query)) names) (query_pairs request.query)

-- a body of bytes, of JSON or of a form, by what is listed under its media types
abbrev pub ListedBodyHolds : Json → WireRequest → RequestBody → Type 0
ListedBodyHolds doc request body =
    IsSome (value_at (codes "application/octet-stream") body.content)
    ⊎ (IsSomeAnd (value_at (codes "application/json") body.content) (λ media. IsJsonOf doc request media.schema)
    ⊎ IsSomeAnd (value_at (codes "application/x-www-form-urlencoded") body.content) (λ media. IsFormOf doc request media.schema))

-- each listed parameter holds, what pages ask where the operation answers in pages, and its body where it has one
pub record ListedHolds (doc : Json) (request : WireRequest) (operation : Operation) : Type 0 where
  pub parameters : IsTrue (list_all (listed_holds doc request (is_some operation.pagination)) operation.parameters)
  pub pages : IsTrue (is_none_or operation.pagination (listed_pages_hold request operation.parameters))
  pub body : IfSome operation.request_body (ListedBodyHolds doc request)
