-- How tags are written (OpenAPI 3.0.3, Tag Object).
use Rattle.std.specs.Prelude.{[], ◌∷◌, Some, option_map, codes}
use Rattle.schema_values.specs.declared.json_value.Json.{Json, Text}
use Rattle.openapi_values.specs.declared.tags.ExternalDocs.{ExternalDocs}
use Rattle.openapi_values.specs.declared.tags.TagObject.{TagObject}
use Rattle.openapi_values.specs.Objects.{object_of}

-- where more is written (OpenAPI 3.0.3, External Documentation Object)
abbrev pub external_docs_json : ExternalDocs → Json
external_docs_json docs = object_of ((codes "description", option_map Text docs.description) ∷ (codes "url", Some (Text docs.url)) ∷ [])

-- a name, and what is told of it
abbrev pub tag_json : TagObject → Json
tag_json tag =
    object_of ((codes "name", Some (Text tag.name)) ∷ (codes "description", option_map Text tag.description) ∷ (codes "externalDocs", option_map external_docs_json tag.external_docs) ∷ [])
