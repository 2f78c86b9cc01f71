-- The tags of a document (OpenAPI 3.0.3, Tag Object): those that are configured and those of the listed operations, in
-- the order of their names, each once.
use Rattle.std.specs.Prelude.{ℕ, List, ◌++◌, map, Option, Some, None, option_map}
use Rattle.std.specs.BTreeMap.{is_at}
use Rattle.std.specs.List.{flat_map}
use Rattle.std.specs.Map.{lookup}
use Rattle.openapi_values.specs.declared.tags.ExternalDocs.{ExternalDocs}
use Rattle.openapi_values.specs.declared.tags.TagObject.{TagObject}
use Rattle.tag_config.specs.declared.details.TagDetails.{TagDetails}
use Rattle.tag_config.specs.declared.details.TagExternalDocs.{TagExternalDocs}
use Rattle.api_declarations.specs.Values.{DeclarationValue}
use Rattle.api_documents.specs.Ordered.{in_text_order, text_order}

-- what is configured of tags, by their names
abbrev pub Configured : Type 0
Configured = List (List ℕ × TagDetails)

-- where more is written of a tag
abbrev pub external_docs : TagExternalDocs → ExternalDocs
external_docs docs = record { description = docs.description; url = docs.url }

-- a tag with what is configured of it, where something is
abbrev pub tag_with : List ℕ → Option TagDetails → TagObject
tag_with name None = record { name = name; description = None; external_docs = None }
tag_with name (Some details) = record {
  name = name;
  description = details.description;
  external_docs = option_map external_docs details.external_docs;
}

-- the tag of a name
abbrev pub tag_of : Configured → List ℕ → TagObject
tag_of configured name = tag_with name (lookup (is_at (text_order name)) configured)

-- the names of all tags
abbrev pub tag_names : Configured → List DeclarationValue → List (List ℕ)
tag_names configured ds =
    in_text_order (map (λ entry. entry.0) configured ++ flat_map (λ (d : DeclarationValue). d.tags) ds)

-- all tags
abbrev pub tags_of : Configured → List DeclarationValue → List TagObject
tags_of configured ds = map (tag_of configured) (tag_names configured ds)
