use Rattle.std.proofs.Common.{refl}
use Rattle.typed_values.proofs.schemas.object_parts.Goals as goal

pub returns : goal.returns
returns c = λ table. rw (c.struct_parts.ensures, c.in_ok-required.ensures table, c.new.ensures.items) refl
