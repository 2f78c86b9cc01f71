use Rattle.std.proofs.Common.{take}
use Rattle.std.specs.Prelude.{All}
use Rattle.handler_shapes.specs.ScalarTypes.{IsScalarType}
use Rattle.endpoint_checks.proofs.slots.are_scalar.Given as goal

abbrev pub invariant-loop-field : goal.invariant-loop-field
invariant-loop-field l = All (λ field. IsScalarType l.table field.desc) (take l.field-index l.fields)
