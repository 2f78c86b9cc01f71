-- What it is for a schema in a document to admit the texts that a descriptor has (OpenAPI 3.0.3, Parameter Object).
use Rattle.std.specs.Prelude.{◌↔◌, ℕ, List}
use Rattle.schema_values.specs.declared.json_value.Json.{Json}
use Rattle.openapi_values.specs.TextAdmits.{TextAdmits}
use Rattle.descriptors.specs.declared.desc.Desc.{Desc}
use Rattle.descriptors.specs.declared.table.Definition.{Definition}
use Rattle.descriptors.specs.declared.tree.Tree.{Tree}
use Rattle.scalar_texts.specs.Texts.{TextDenotes}

-- a schema admits exactly the texts that denote a tree, of any characters and of numbers of any size
abbrev pub AdmitsTexts : Json → Json → List Definition → Desc → Type 0
AdmitsTexts doc schema table desc = (text : List ℕ) → TextAdmits doc schema text ↔ ((tree : Tree) × TextDenotes table desc text tree)
