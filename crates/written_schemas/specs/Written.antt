-- What it is for the schema of a descriptor to say in a document what the descriptor says.
use Rattle.std.specs.Prelude.{◌≡◌, ◌↔◌, ◌≤◌, ℕ, List}
use Rattle.schema_values.specs.declared.json_value.Json.{Json}
use Rattle.schema_values.specs.Sound.{IsSound}
use Rattle.openapi_values.specs.JsonAdmits.{admits_within, JsonAdmits}
use Rattle.openapi_values.specs.Room.{room}
use Rattle.descriptors.specs.declared.desc.Desc.{Desc}
use Rattle.descriptors.specs.declared.table.Definition.{Definition}
use Rattle.descriptors.specs.declared.tree.Tree.{Tree}
use Rattle.typed_values.specs.Checks.{TablePasses, DescPasses}
use Rattle.typed_values.specs.Denotes.{JsonDenotes}
use Rattle.written_schemas.specs.Reached.{DefinesReached}

-- a table and a descriptor pass their checks, and a document has the schemas of the definitions that the descriptor reaches
pub record IsWritten (doc : Json) (table : List Definition) (desc : Desc) : Type 0 where
  pub table_passes : TablePasses table
  pub desc_passes : DescPasses table desc
  pub defined : DefinesReached doc table desc

-- of the sound values, a schema admits exactly those that denote a tree
abbrev pub AdmitsDenoted : Json → Json → List Definition → Desc → Type 0
AdmitsDenoted doc schema table desc = (json : Json) → IsSound json → JsonAdmits doc schema json ↔ ((tree : Tree) × JsonDenotes table desc json tree)

-- from the room on, more steps do not change whether a schema admits a sound value
abbrev pub StepsSuffice : Json → Json → Type 0
StepsSuffice doc schema = (json : Json) → IsSound json → (steps : ℕ) → room doc schema ≤ steps → admits_within doc steps json steps schema ≡ admits_within doc (room doc schema) json (room doc schema) schema
