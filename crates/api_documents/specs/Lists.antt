-- What it is for a document to list endpoints at a version: its operations are those of the endpoints that are visible
-- and whose ranges hold the version, each once (OpenAPI 3.0.3, Paths Object and Path Item Object).
use Rattle.std.specs.Prelude.{◌≡◌, ℕ, List, Some, IsSome, IsTrue, Contains}
use Rattle.schema_values.specs.Sound.{AreDistinct}
use Rattle.schema_values.specs.declared.json_value.Json.{Json}
use Rattle.openapi_values.specs.declared.document.OpenApi.{OpenApi}
use Rattle.openapi_values.specs.Admits.{operation_at}
use Rattle.openapi_values.specs.Find.{operation_in}
use Rattle.openapi_values.specs.Operation.{operation_json}
use Rattle.openapi_values.specs.SoundParts.{names_of_map}
use Rattle.semver.specs.Parse.{Parts}
use Rattle.api_versions.specs.Ranges.{Holds}
use Rattle.api_declarations.specs.Values.{DeclarationValue}
use Rattle.api_documents.specs.ErrorNames.{NamedErrorValue}
use Rattle.api_documents.specs.Listed.{path_of}
use Rattle.api_documents.specs.Operations.{operation_of}

-- an endpoint is one of some endpoints; it is visible, and its range holds the version
pub record IsListed (version : Parts) (ds : List DeclarationValue) (d : DeclarationValue) : Type 0 where
  pub declared : Contains ds d
  pub visible : IsTrue d.visible
  pub held : Holds d.versions version

-- Each listed endpoint has its operation at its path and method; each operation is that of a listed endpoint; and each
-- stands once: no path stands twice, and a path has one operation at most for each method.
pub record Lists (named : List NamedErrorValue) (document : OpenApi) (version : Parts)
    (ds : List DeclarationValue) : Type 0 where
  pub each : (d : DeclarationValue) → IsListed version ds d
      → operation_in document (path_of d) d.method ≡ Some (operation_of named d)
  pub only : (path method : List ℕ) → IsSome (operation_in document path method)
      → (d : DeclarationValue) × IsListed version ds d × (path_of d ≡ path) × (d.method ≡ method)
  pub once : AreDistinct (names_of_map document.paths)

-- the same of what is written: what stands at the path and method of a listed endpoint is its operation as JSON, and
-- nothing stands at others
pub record ListsWritten (named : List NamedErrorValue) (document : Json) (version : Parts)
    (ds : List DeclarationValue) : Type 0 where
  pub each : (d : DeclarationValue) → IsListed version ds d
      → operation_at document (path_of d) d.method ≡ Some (operation_json (operation_of named d))
  pub only : (path method : List ℕ) → IsSome (operation_at document path method)
      → (d : DeclarationValue) × IsListed version ds d × (path_of d ≡ path) × (d.method ≡ method)
