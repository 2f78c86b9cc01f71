use Rattle.std.proofs.Common.{refl}
use Rattle.sample_types.specs.Types.{point_definition}
use Rattle.sample_types.proofs.shapes.point_create_shape.Goals as goal

pub body_table-requires-clause-one : goal.body_table-requires-clause-one
body_table-requires-clause-one c = record { own = point_definition; alone = refl; new = refl }
