use Rattle.std.proofs.Common.{arith, refl, sym}
use Rattle.schema_values.specs.Sound.{AreDistinct}
use Rattle.descriptors.specs.declared.desc.TaggedVariant.{TaggedVariant}
use Rattle.typed_values.specs.Checks.{names_of_fields}
use Rattle.typed_values.proofs.Searching.{one_more}
use Rattle.typed_values.proofs.Within.{untrue}
use Rattle.typed_values.proofs.flaws.has_doubled_field.Goals as goal

pub returns-then-not-are_distinct : goal.returns-then-not-are_distinct
returns-then-not-are_distinct c =
    let e = rw c.as_slice.ensures at c.are_distinct.ensures in
    (λ h. (c.variant-item.result, (c.loop-variant.variant-index, omega arith, sym c.variant-item.is), untrue e c.if-not-are_distinct.true), λ h. refl)

pub loop-variant-preserved : goal.loop-variant-preserved
loop-variant-preserved c =
    let e = rw c.as_slice.ensures at c.are_distinct.ensures in
    one_more (λ (v : TaggedVariant). AreDistinct (names_of_fields v)) c.args.variants.now c.loop-variant.variant-index c.variant-item.result c.variant-item.is (omega arith) c.loop-variant.invariant
    (e.0 c.if-not-are_distinct.false)
