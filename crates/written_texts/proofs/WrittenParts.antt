-- Where a document says what a descriptor says, it does so of each descriptor that this needs.
use Rattle.std.proofs.Common.{ℕ, List}
use Rattle.schema_values.specs.declared.json_value.Json.{Json}
use Rattle.descriptors.specs.declared.desc.Desc.{Desc}
use Rattle.descriptors.specs.declared.table.Definition.{Definition}
use Rattle.typed_values.specs.Checks.{TablePasses, DescPasses}
use Rattle.typed_values.specs.Parts.{StandsIn}
use Rattle.typed_values.specs.Reached.{IsReached, directly, through}
use Rattle.typed_values.proofs.CallerLemmas.{IsNeeded, of_whole, of_reached, entry_inside, reference_reached, stands_through}
use Rattle.written_schemas.specs.Reached.{DefinesReached}
use Rattle.written_schemas.specs.Written.{IsWritten}

module _ (table : List Definition) (whole d : Desc) where
  needed_deeper : (x : Desc) → IsNeeded table whole d → StandsIn d x → IsNeeded table whole x
  needed_deeper x (of_whole s) k = of_whole (stands_through s k)
  needed_deeper x (of_reached name e r f s) k = of_reached name e r f (stands_through s k)

  reached_deeper : (name : List ℕ) → IsNeeded table whole d → IsReached table d name → IsReached table whole name
  reached_deeper name need (directly other m) = reference_reached table whole m.0 other m.2 (needed_deeper m.0 need m.1)
  reached_deeper name need (through other last e r f m) = through other last e (reached_deeper other need r) f m

  pub passes_deeper : TablePasses table → DescPasses table whole → IsNeeded table whole d → DescPasses table d
  passes_deeper passes right (of_whole s) = λ x k. right x (stands_through s k)
  passes_deeper passes right (of_reached name e r f s) = λ x k. passes.each e (entry_inside table name e f) x (stands_through s k)

  pub defines_deeper : (doc : Json) → DefinesReached doc table whole → IsNeeded table whole d → DefinesReached doc table d
  defines_deeper doc defines need = λ name e r f. defines name e (reached_deeper name need r) f

  pub written_part : (doc : Json) → IsWritten doc table whole → IsNeeded table whole d → IsWritten doc table d
  written_part doc written need = record {
    table_passes = written.table_passes;
    desc_passes = passes_deeper written.table_passes written.desc_passes need;
    defined = defines_deeper doc written.defined need;
  }
