use Rattle.std.proofs.Common.{◌≢◌, arith, refl, sym, true≢false}
use Rattle.std.specs.List.{AllByRecursion}
use Rattle.descriptors.specs.declared.desc.TaggedVariant.{TaggedVariant}
use Rattle.descriptors.specs.Definitions.{field_name, tagged_fields}
use Rattle.typed_values.proofs.Fields.{named_field, other_named}
use Rattle.typed_values.proofs.Searching.{one_more}
use Rattle.typed_values.proofs.Within.{untrue}
use Rattle.typed_values.proofs.flaws.some_field_named.Goals as goal

pub returns-then-not-is_new_name : goal.returns-then-not-is_new_name
returns-then-not-is_new_name c =
    let e = rw c.as_slice.ensures at c.is_new_name.ensures in
    let v : TaggedVariant = c.variant-item.result in
    let (f, k, named) = named_field c.args.name.now (tagged_fields v) (untrue e c.if-not-is_new_name.true) in
    (λ h. (v, f, (c.loop-variant.variant-index, omega arith, sym c.variant-item.is), k, named), λ h. refl)

pub loop-variant-preserved : goal.loop-variant-preserved
loop-variant-preserved c =
    let e = rw c.as_slice.ensures at c.is_new_name.ensures in
    one_more (λ (v : TaggedVariant). AllByRecursion (λ f. c.args.name.now ≢ field_name f) (tagged_fields v)) c.args.variants.now c.loop-variant.variant-index c.variant-item.result c.variant-item.is (omega arith)
    c.loop-variant.invariant (e.0 c.if-not-is_new_name.false)

pub returns : goal.returns
returns c =
    (λ h. absurd (true≢false (sym h)), λ h. absurd (other_named c.args.name.now (tagged_fields h.0) h.1 (c.loop-variant.invariant h.2.0 h.0 (omega (arith, h.2.1)) h.2.2) h.3 h.4))
