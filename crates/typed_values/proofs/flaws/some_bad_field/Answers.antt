use Rattle.std.proofs.Common.{arith, refl, sym, true≢false}
use Rattle.descriptors.specs.declared.desc.Field.{Field}
use Rattle.typed_values.specs.Checks.{IsBadField}
use Rattle.typed_values.proofs.Searching.{one_more}
use Rattle.typed_values.proofs.Within.{untrue}
use Rattle.typed_values.proofs.flaws.some_bad_field.Goals as goal

pub returns-then-is_bad_field : goal.returns-then-is_bad_field
returns-then-is_bad_field c =
    (λ h. (c.field-item.result, (c.loop-field.field-index, omega arith, sym c.field-item.is), c.is_bad_field.ensures.0 c.if-is_bad_field.true), λ h. refl)

pub loop-field-preserved : goal.loop-field-preserved
loop-field-preserved c =
    one_more (λ (f : Field). IsBadField c.args.table.now f → ⊥) c.args.fields.now c.loop-field.field-index c.field-item.result c.field-item.is (omega arith)
    c.loop-field.invariant (untrue c.is_bad_field.ensures c.if-is_bad_field.false)

pub returns : goal.returns
returns c = (λ h. absurd (true≢false (sym h)), λ h. absurd (c.loop-field.invariant h.1.0 h.0 (omega (arith, h.1.1)) h.1.2 h.2))
