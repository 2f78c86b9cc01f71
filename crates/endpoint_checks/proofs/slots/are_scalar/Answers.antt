use Rattle.std.proofs.Common.{arith, refl, subst}
use Rattle.std.proofs.lemmas.List.{take_all}
use Rattle.std.proofs.lemmas.List.Elements.{All-contains, All-more}
use Rattle.std.specs.Prelude.{All}
use Rattle.descriptors.specs.declared.desc.Field.{Field}
use Rattle.handler_shapes.specs.ScalarTypes.{IsScalarType}
use Rattle.endpoint_checks.proofs.slots.are_scalar.Goals as goal

pub loop-field-preserved : goal.loop-field-preserved
loop-field-preserved c =
    let Scalar = λ (field : Field). IsScalarType c.args.table.now field.desc in
    All-more Scalar c.args.fields.now c.loop-field.field-index c.field-item.result (omega arith) c.loop-field.invariant
    (subst Scalar c.field-item.is (c.is_scalar.ensures.0 c.if-not-is_scalar.false))

pub returns : goal.returns
returns c =
    let Scalar = λ (field : Field). IsScalarType c.args.table.now field.desc in
    let each = subst (All Scalar) (take_all c.loop-field.field-index c.args.fields.now (omega arith)) c.loop-field.invariant in
    (λ h field inside. All-contains Scalar c.args.fields.now field each inside, λ h. refl)
