-- Where the endpoints that a document lists stand among those that were declared: an index has their places by their
-- paths.
use Rattle.std.specs.Prelude.{ℕ, Bool, List, [], ◌∷◌, Option, option_map, if◌then◌else◌, bytes_eq}
use Rattle.std.specs.List.{filter_map}
use Rattle.openapi_values.specs.declared.operation.Operation.{Operation}
use Rattle.openapi_values.specs.declared.operation.PathItem.{PathItem}
use Rattle.semver.specs.Parse.{Parts}
use Rattle.path_templates.specs.Places.{first_at}
use Rattle.api_declarations.specs.Values.{DeclarationValue}
use Rattle.api_documents.specs.ErrorNames.{NamedErrorValue}
use Rattle.api_declarations.specs.Serving.{is_listed}
use Rattle.api_documents.specs.Listed.{method_names, path_of}
use Rattle.api_documents.specs.Operations.{operation_of, path_item_by}

-- the key of an endpoint by which it is looked up: its path, where it is listed
abbrev pub path_keys : Parts → DeclarationValue → List (List ℕ)
path_keys version d = if is_listed version d then path_of d ∷ [] else []

-- whether an endpoint is served by a method
abbrev pub has_method : List ℕ → DeclarationValue → Bool
has_method method d = bytes_eq d.method method

-- the endpoints at some places, in the order of their methods
abbrev pub at_places : List DeclarationValue → List ℕ → List DeclarationValue
at_places ds places = filter_map (λ method. first_at (has_method method) ds places) method_names

-- the operation of a method at some places
abbrev pub operation_by : List NamedErrorValue → List DeclarationValue → List ℕ → List ℕ → Option Operation
operation_by named ds places method = option_map (operation_of named) (first_at (has_method method) ds places)

-- the operations at some places
abbrev pub item_at : List NamedErrorValue → List DeclarationValue → List ℕ → PathItem
item_at named ds places = path_item_by (operation_by named ds places)
