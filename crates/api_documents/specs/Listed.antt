-- Which endpoints the document of a version lists, and in which order their operations stand there (OpenAPI 3.0.3,
-- Paths Object and Path Item Object; the order of the paths is this project's own).
use Rattle.std.specs.Prelude.{ℕ, Bool, ◌&&◌, List, map, filter, find, Option, bytes_eq}
use Rattle.std.specs.List.{flat_map, filter_map}
use Rattle.semver.specs.Parse.{Parts}
use Rattle.openapi_values.specs.Admits.{methods}
use Rattle.api_declarations.specs.Serving.{is_listed}
use Rattle.path_templates.specs.Templates.{trimmed}
use Rattle.api_declarations.specs.Values.{DeclarationValue}
use Rattle.api_documents.specs.Ordered.{in_text_order}

-- the endpoints that the document of a version lists, in the order in which they were declared
abbrev pub listed : Parts → List DeclarationValue → List DeclarationValue
listed version = filter (is_listed version)

-- the path of an endpoint in a document: without a slash at its end, but `/` alone stays
abbrev pub path_of : DeclarationValue → List ℕ
path_of d = trimmed d.path

-- the paths of endpoints, in order, each once
abbrev pub paths_in_order : List DeclarationValue → List (List ℕ)
paths_in_order ds = in_text_order (map path_of ds)

-- whether an endpoint is served at a path, and by a method
abbrev pub stands_at : List ℕ → List ℕ → DeclarationValue → Bool
stands_at path method d = bytes_eq (path_of d) path && bytes_eq d.method method

-- the endpoint of a path and a method: the first one, and of accepted endpoints the only one
abbrev pub endpoint_of : List DeclarationValue → List ℕ → List ℕ → Option DeclarationValue
endpoint_of ds path method = find (stands_at path method) ds

-- the methods, in the order of the operations of a path
abbrev pub method_names : List (List ℕ)
method_names = map (λ method. method.0) methods

-- the endpoints of a path, in the order of their methods
abbrev pub at_path : List DeclarationValue → List ℕ → List DeclarationValue
at_path ds path = filter_map (endpoint_of ds path) method_names

-- the endpoints in the order of their operations: path by path, and at each path method by method
abbrev pub in_order : List DeclarationValue → List DeclarationValue
in_order ds = flat_map (at_path ds) (paths_in_order ds)
