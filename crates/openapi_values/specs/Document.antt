-- How the document is written (OpenAPI 3.0.3, OpenAPI Object). `paths` and `components` always stand.
use Rattle.std.specs.Prelude.{List, [], ◌∷◌, map, Some, codes}
use Rattle.schema_values.specs.declared.json_value.Json.{Json, Text, Object}
use Rattle.openapi_values.specs.declared.document.Components.{Components}
use Rattle.openapi_values.specs.declared.document.OpenApi.{OpenApi}
use Rattle.openapi_values.specs.Info.{info_json}
use Rattle.openapi_values.specs.Objects.{Entry, object_of, list_unless_empty, map_members, unless_empty}
use Rattle.openapi_values.specs.Operation.{response_json, path_item_json}
use Rattle.openapi_values.specs.Tags.{tag_json}

-- responses and schemas by name, each map left out where it is empty
abbrev pub components_entries : Components → List Entry
components_entries components =
    (codes "responses", unless_empty (map_members response_json components.responses))
    ∷ (codes "schemas", unless_empty (map_members (λ schema. schema) components.schemas))
    ∷ []

-- the reusable parts of a document (OpenAPI 3.0.3, Components Object)
unfoldable pub components_json : Components → Json
components_json components = object_of (components_entries components)

-- the members of a document, in their order
abbrev pub open_api_entries : OpenApi → List Entry
open_api_entries document =
    (codes "openapi", Some (Text document.openapi))
    ∷ (codes "info", Some (info_json document.info))
    ∷ (codes "paths", Some (Object (map_members path_item_json document.paths)))
    ∷ (codes "components", Some (components_json document.components))
    ∷ (codes "tags", list_unless_empty (map tag_json document.tags))
    ∷ []

-- the document as JSON
unfoldable pub open_api_json : OpenApi → Json
open_api_json document = object_of (open_api_entries document)
