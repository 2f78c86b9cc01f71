use Rattle.std.proofs.Common.{arith, refl, sym, true≢false}
use Rattle.std.specs.Prelude.{Contains}
use Rattle.descriptors.specs.declared.desc.Field.{Field}
use Rattle.descriptors.specs.declared.desc.TaggedVariant.{TaggedVariant}
use Rattle.typed_values.specs.Checks.{IsBadField}
use Rattle.descriptors.specs.Definitions.{tagged_fields}
use Rattle.typed_values.proofs.Searching.{one_more}
use Rattle.typed_values.proofs.Within.{untrue}
use Rattle.typed_values.proofs.flaws.some_bad_variant.Goals as goal

pub returns-then-some_bad_field : goal.returns-then-some_bad_field
returns-then-some_bad_field c =
    let e = rw c.as_slice.ensures at c.some_bad_field.ensures in
    let bad = e.0 c.if-some_bad_field.true in
    (λ h. (c.variant-item.result, bad.0, (c.loop-variant.variant-index, omega arith, sym c.variant-item.is), bad.1, bad.2), λ h. refl)

pub loop-variant-preserved : goal.loop-variant-preserved
loop-variant-preserved c =
    let e = rw c.as_slice.ensures at c.some_bad_field.ensures in
    one_more (λ (v : TaggedVariant). ((f : Field) × Contains (tagged_fields v) f × IsBadField c.args.table.now f) → ⊥) c.args.variants.now c.loop-variant.variant-index c.variant-item.result c.variant-item.is (omega arith)
    c.loop-variant.invariant (untrue e c.if-some_bad_field.false)

pub returns : goal.returns
returns c = (λ h. absurd (true≢false (sym h)), λ h. absurd (c.loop-variant.invariant h.2.0 h.0 (omega (arith, h.2.1)) h.2.2 (h.1, h.3, h.4)))
