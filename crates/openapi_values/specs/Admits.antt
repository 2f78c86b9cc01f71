-- Which requests a document admits, read from its JSON (OpenAPI 3.0.3, from Paths Object to Request Body Object).
use Rattle.std.specs.Prelude.{◌≡◌, ℕ, Bool, List, [], ◌∷◌, Option, Some, IfSome, IsTrue, is_some, option_map, option_and_then, unwrap_or, find, bytes_eq, codes}
use Rattle.std.specs.List.{list_all, list_any}
use Rattle.schema_values.specs.declared.json_value.Json.{Json, out-Json}
use Rattle.schema_values.specs.Get.{get_of}
use Rattle.request_words.specs.declared.request.WireRequest.{WireRequest}
use Rattle.request_words.specs.Pairs.{query_pairs}
use Rattle.openapi_values.specs.Levels.{as_list}
use Rattle.openapi_values.specs.Lookup.{member_in}
use Rattle.openapi_values.specs.Options.{is_none_or}
use Rattle.openapi_values.specs.Pages.{query_rule, pages_hold, required_stand}
use Rattle.openapi_values.specs.RequestBodies.{BodyHolds}
use Rattle.openapi_values.specs.RequestParameters.{parameter_holds, is_query_named}

-- each method, and the name under which a path has its operation
abbrev pub methods : List (List ℕ × List ℕ)
methods =
    (codes "GET", codes "get")
    ∷ (codes "PUT", codes "put")
    ∷ (codes "POST", codes "post")
    ∷ (codes "DELETE", codes "delete")
    ∷ (codes "OPTIONS", codes "options")
    ∷ (codes "HEAD", codes "head")
    ∷ (codes "PATCH", codes "patch")
    ∷ (codes "TRACE", codes "trace")
    ∷ []

-- the name under which a path has the operation of a method
abbrev pub method_member : List ℕ → Option (List ℕ)
method_member method = option_map (λ pair. pair.1) (find (λ pair. bytes_eq pair.0 method) methods)

-- what stands at a path's template
abbrev pub path_item_at : Json → List ℕ → Option Json
path_item_at doc path = member_in (get_of (codes "paths") doc) path

-- the operation of a path and a method; a text that is no method names none
abbrev pub operation_at : Json → List ℕ → List ℕ → Option Json
operation_at doc path method = option_and_then (member_in (path_item_at doc path)) (method_member method)

-- the parameters of an operation, none where it has no list of them
abbrev pub parameters_of : Json → List Json
parameters_of operation = unwrap_or (option_and_then (λ parameters. as_list (out-Json parameters)) (get_of (codes "parameters") operation)) []

-- the extension of an operation that answers in pages
abbrev pub pagination_of : Json → Option Json
pagination_of operation = get_of (codes "x-dropshot-pagination") operation

-- whether an operation lists a name of the query
abbrev pub lists_query : Json → List ℕ → Bool
lists_query operation name = list_any (is_query_named name) (parameters_of operation)

-- the rule for the parameters of an operation's query
abbrev pub query_rule_of : WireRequest → Json → (List ℕ → Bool) → Bool → List ℕ → Bool
query_rule_of request operation = query_rule (is_some (pagination_of operation)) (query_pairs request.query)

-- what an operation in pages asks besides its parameters
abbrev pub operation_pages_hold : WireRequest → Json → Json → Bool
operation_pages_hold request operation pagination =
    pages_hold (lists_query operation) (required_stand (query_pairs request.query) (get_of (codes "required") pagination)) (query_pairs request.query)

-- each parameter of an operation holds, its query has what pages ask where it answers in pages, and its request body
-- holds where it has one
pub record OperationHolds (doc : Json) (request : WireRequest) (operation : Json) : Type 0 where
  pub parameters : IsTrue (list_all (parameter_holds doc request (query_rule_of request operation)) (parameters_of operation))
  pub pages : IsTrue (is_none_or (pagination_of operation) (operation_pages_hold request operation))
  pub body : IfSome (get_of (codes "requestBody") operation) (BodyHolds doc request)

-- the operation stands in the document, and holds
pub record Admits (doc : Json) (path method : List ℕ) (request : WireRequest) : Type 0 where
  pub operation : Json
  pub stands : operation_at doc path method ≡ Some operation
  pub holds : OperationHolds doc request operation
