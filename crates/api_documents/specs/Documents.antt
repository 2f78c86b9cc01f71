-- The document of endpoints at a version (OpenAPI 3.0.3, OpenAPI Object).
use Rattle.std.specs.Prelude.{List, codes}
use Rattle.schema_values.specs.declared.json_value.Json.{Json}
use Rattle.openapi_values.specs.declared.document.OpenApi.{OpenApi}
use Rattle.openapi_values.specs.declared.info.Info.{Info}
use Rattle.openapi_values.specs.Document.{open_api_json}
use Rattle.semver.specs.Parse.{Parts}
use Rattle.api_declarations.specs.Values.{DeclarationValue}
use Rattle.api_documents.specs.Components.{components_of}
use Rattle.api_documents.specs.ErrorNames.{NamedErrorValue, listed_errors, named_errors}
use Rattle.api_documents.specs.Listed.{in_order, listed}
use Rattle.api_documents.specs.Operations.{path_items}
use Rattle.api_documents.specs.Tags.{Configured, tags_of}

-- the errors of listed endpoints under their names, which are given in the order of the operations
abbrev pub errors_of : List DeclarationValue → List NamedErrorValue
errors_of ds = named_errors (listed_errors (in_order ds))

-- the document that lists some endpoints
abbrev pub document_listing : List DeclarationValue → Configured → Info → OpenApi
document_listing ds configured info = record {
  openapi = codes "3.0.3";
  info = info;
  paths = path_items (errors_of ds) ds;
  components = components_of (errors_of ds) ds;
  tags = tags_of configured ds;
}

-- the document of endpoints at a version: it lists those that are visible and whose ranges hold the version
abbrev pub document_of : List DeclarationValue → Configured → Info → Parts → OpenApi
document_of ds configured info version = document_listing (listed version ds) configured info

-- that document as JSON
abbrev pub document_json_of : List DeclarationValue → Configured → Info → Parts → Json
document_json_of ds configured info version = open_api_json (document_of ds configured info version)
