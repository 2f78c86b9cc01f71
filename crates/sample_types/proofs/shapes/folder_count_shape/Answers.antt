use Rattle.std.proofs.Common.{refl}
use Rattle.own_types.specs.Folders.{folder_definition}
use Rattle.sample_types.proofs.shapes.folder_count_shape.Goals as goal

pub body_table-requires-clause-one : goal.body_table-requires-clause-one
body_table-requires-clause-one c = record { own = folder_definition; alone = refl; new = refl }
