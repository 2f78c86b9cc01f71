use Rattle.std.proofs.Common.{refl}
use Rattle.http_status.specs.ErrorBodies.{error_definition}
use Rattle.sample_types.proofs.shape_parts.error_table.Goals as goal

pub add-requires : goal.add-requires
add-requires c = rw c.new-table.ensures (record { own = error_definition; alone = refl; new = refl })
