use Rattle.std.proofs.Common.{List, ◌++◌, codes, refl, ◌∙◌, ap}
use Rattle.descriptors.specs.declared.table.Definition.{Definition}
use Rattle.descriptors.specs.Definitions.{entry_of}
use Rattle.http_status.specs.ErrorBodies.{error_definition}
use Rattle.sample_types.proofs.shape_parts.body_table.Goals as goal

pub add-requires-2 : goal.add-requires-2
add-requires-2 g c = record {
  own = error_definition;
  alone = refl;
  new = ap (λ (table : List Definition). entry_of table (codes "Error"))
      (c.in_ok-add.ensures ∙ ap (λ (table : List Definition). table ++ g.T.ApiType.definitions_of) c.new-table.ensures)
      ∙ c.requires.apart;
}
