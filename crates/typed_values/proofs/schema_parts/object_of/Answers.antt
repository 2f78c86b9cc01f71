use Rattle.std.proofs.Common.{refl}
use Rattle.schema_values.specs.declared.schema.SchemaObject.{roll-out-SchemaObject}
use Rattle.typed_values.proofs.schema_parts.object_of.Goals as goal

pub returns : goal.returns
returns c = rw (roll-out-SchemaObject c.args.parts, c.in_ok-new.ensures) refl
