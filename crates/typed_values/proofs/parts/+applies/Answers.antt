use Rattle.std.proofs.Common.{◌≡◌, ◌∙◌, Some, ap, sym, subst, refl, arith, true≢false}
use Rattle.std.specs.Prelude.{Contains}
use Rattle.descriptors.specs.declared.desc.Desc.{Desc, out-Desc}
use Rattle.descriptors.specs.declared.desc.Desc.TheOpen.{Desc-F}
use Rattle.descriptors.specs.declared.desc.Desc.TheVariants as desc
use Rattle.descriptors.specs.declared.desc.Field.{Field}
use Rattle.descriptors.specs.declared.desc.TaggedVariant.{TaggedVariant}
use Rattle.descriptors.specs.declared.desc.Variant.{Variant}
use Rattle.typed_values.specs.Causes.{Tells}
use Rattle.descriptors.specs.Definitions.{tagged_fields}
use Rattle.typed_values.specs.Lengths.{IsShort}
use Rattle.typed_values.proofs.Searching.{one_more}
use Rattle.typed_values.proofs.Within.{untrue, part_here, parts_at, all_parts, IsAlone, none_within, all_within, IsClear, clear_of}
use Rattle.typed_values.proofs.parts.+applies.Goals as goal
use Rattle.typed_values.proofs.parts.+applies.Goals.{applies_to_some_payload-in-Some+else-applies, applies_to_some_payload-in_default}

pub applies-returns-then-tells-clause-told : goal.applies-returns-then-tells-clause-told
applies-returns-then-tells-clause-told t c = (λ h. part_here (Tells c.args.error c.args.table.now) c.args.desc.now (c.tells.ensures.told.0 c.if-tells.true), λ h. refl)

pub applies-returns-in-Option : goal.applies-returns-in-Option
applies-returns-in-Option t c =
    let P : Desc → Type 0 = Tells c.args.error c.args.table.now in
    let l = c.in-Option in
    let e : out-Desc c.args.desc.now ≡ Desc-F.Option l.inner = ap out-Desc l.is ∙ desc.outs-Option l.inner in
    let i = parts_at P c.args.desc.now (Desc-F.Option l.inner) e (untrue c.tells.ensures.told c.if-tells.false) in
    let told = rw c.get.ensures at c.applies.ensures.told in
    let short = rw c.get.ensures at c.applies.ensures.lengths in
    record {
      told = (λ h. i.1 (told.0 h), λ h. told.1 (i.0 h));
      lengths = λ is none. all_parts IsShort c.args.desc.now (Desc-F.Option l.inner) e (c.tells.ensures.lengths is) (short is none);
    }

pub applies-returns-in-List : goal.applies-returns-in-List
applies-returns-in-List t c =
    let P : Desc → Type 0 = Tells c.args.error c.args.table.now in
    let l = c.in-List in
    let e : out-Desc c.args.desc.now ≡ Desc-F.List l.item l.min l.max = ap out-Desc l.is ∙ desc.outs-List l.item l.min l.max in
    let i = parts_at P c.args.desc.now (Desc-F.List l.item l.min l.max) e (untrue c.tells.ensures.told c.if-tells.false) in
    let told = rw c.get-in-List.ensures at c.applies-in-List.ensures.told in
    let short = rw c.get-in-List.ensures at c.applies-in-List.ensures.lengths in
    record {
      told = (λ h. i.1 (told.0 h), λ h. told.1 (i.0 h));
      lengths = λ is none. all_parts IsShort c.args.desc.now (Desc-F.List l.item l.min l.max) e (c.tells.ensures.lengths is) (short is none);
    }

pub applies-returns-in-Map : goal.applies-returns-in-Map
applies-returns-in-Map t c =
    let P : Desc → Type 0 = Tells c.args.error c.args.table.now in
    let l = c.in-Map in
    let e : out-Desc c.args.desc.now ≡ Desc-F.Map l.value = ap out-Desc l.is ∙ desc.outs-Map l.value in
    let i = parts_at P c.args.desc.now (Desc-F.Map l.value) e (untrue c.tells.ensures.told c.if-tells.false) in
    let told = rw c.get-in-Map.ensures at c.applies-in-Map.ensures.told in
    let short = rw c.get-in-Map.ensures at c.applies-in-Map.ensures.lengths in
    record {
      told = (λ h. i.1 (told.0 h), λ h. told.1 (i.0 h));
      lengths = λ is none. all_parts IsShort c.args.desc.now (Desc-F.Map l.value) e (c.tells.ensures.lengths is) (short is none);
    }

pub applies-returns-in-Struct : goal.applies-returns-in-Struct
applies-returns-in-Struct t c =
    let P : Desc → Type 0 = Tells c.args.error c.args.table.now in
    let l = c.in-Struct in
    let e : out-Desc c.args.desc.now ≡ Desc-F.Struct l.fields l.deny_unknown = ap out-Desc l.is ∙ desc.outs-Struct l.fields l.deny_unknown in
    let i = parts_at P c.args.desc.now (Desc-F.Struct l.fields l.deny_unknown) e (untrue c.tells.ensures.told c.if-tells.false) in
    let told = rw c.as_slice.ensures at c.applies_to_some_field.ensures.told in
    let short = rw c.as_slice.ensures at c.applies_to_some_field.ensures.lengths in
    record {
      told = (λ h. i.1 (told.0 h), λ h. told.1 (i.0 h));
      lengths = λ is none. all_parts IsShort c.args.desc.now (Desc-F.Struct l.fields l.deny_unknown) e (c.tells.ensures.lengths is) (λ x k. short is none k.0 k.1 x k.2);
    }

pub applies-returns-in-External : goal.applies-returns-in-External
applies-returns-in-External t c =
    let P : Desc → Type 0 = Tells c.args.error c.args.table.now in
    let l = c.in-External in
    let e : out-Desc c.args.desc.now ≡ Desc-F.External l.variants = ap out-Desc l.is ∙ desc.outs-External l.variants in
    let i = parts_at P c.args.desc.now (Desc-F.External l.variants) e (untrue c.tells.ensures.told c.if-tells.false) in
    let told = rw c.as_slice-in-External.ensures at c.applies_to_some_payload.ensures.told in
    let short = rw c.as_slice-in-External.ensures at c.applies_to_some_payload.ensures.lengths in
    record {
      told = (λ h. i.1 (told.0 h), λ h. told.1 (i.0 h));
      lengths = λ is none. all_parts IsShort c.args.desc.now (Desc-F.External l.variants) e (c.tells.ensures.lengths is) (λ x k. short is none k.0 k.1 k.2 k.3 x k.4);
    }

pub applies-returns-in-Tagged : goal.applies-returns-in-Tagged
applies-returns-in-Tagged t c =
    let P : Desc → Type 0 = Tells c.args.error c.args.table.now in
    let l = c.in-Tagged in
    let e : out-Desc c.args.desc.now ≡ Desc-F.Tagged l.tag l.variants = ap out-Desc l.is ∙ desc.outs-Tagged l.tag l.variants in
    let i = parts_at P c.args.desc.now (Desc-F.Tagged l.tag l.variants) e (untrue c.tells.ensures.told c.if-tells.false) in
    let told = rw c.as_slice-in-Tagged.ensures at c.applies_to_some_variant.ensures.told in
    let short = rw c.as_slice-in-Tagged.ensures at c.applies_to_some_variant.ensures.lengths in
    record {
      told = (λ h. i.1 (told.0 h), λ h. told.1 (i.0 h));
      lengths = λ is none. all_parts IsShort c.args.desc.now (Desc-F.Tagged l.tag l.variants) e (c.tells.ensures.lengths is) (λ x k. short is none k.0 k.1 k.2 k.3 x k.4);
    }

pub applies-returns-in-Untagged : goal.applies-returns-in-Untagged
applies-returns-in-Untagged t c =
    let P : Desc → Type 0 = Tells c.args.error c.args.table.now in
    let l = c.in-Untagged in
    let e : out-Desc c.args.desc.now ≡ Desc-F.Untagged l.alternatives = ap out-Desc l.is ∙ desc.outs-Untagged l.alternatives in
    let i = parts_at P c.args.desc.now (Desc-F.Untagged l.alternatives) e (untrue c.tells.ensures.told c.if-tells.false) in
    let told = rw c.as_slice-in-Untagged.ensures at c.applies_to_some.ensures.told in
    let short = rw c.as_slice-in-Untagged.ensures at c.applies_to_some.ensures.lengths in
    record {
      told = (λ h. i.1 (told.0 h), λ h. told.1 (i.0 h));
      lengths = λ is none. all_parts IsShort c.args.desc.now (Desc-F.Untagged l.alternatives) e (c.tells.ensures.lengths is) (λ x k. short is none k.0 k.1 x k.2);
    }

pub applies-returns-in_default : goal.applies-returns-in_default
applies-returns-in_default t c =
    let P : Desc → Type 0 = Tells c.args.error c.args.table.now in
    let d = c.in_default in
    let alone : IsAlone c.args.desc.now = record {
      no_option = d.not-Option;
      no_list = d.not-List;
      no_map = d.not-Map;
      no_struct = d.not-Struct;
      no_external = d.not-External;
      no_tagged = d.not-Tagged;
      no_untagged = d.not-Untagged;
    } in
    record {
      told = (λ h. absurd (true≢false (sym h)), λ h. absurd (none_within P c.args.desc.now (untrue c.tells.ensures.told c.if-tells.false) alone h));
      lengths = λ is none. all_within IsShort c.args.desc.now (c.tells.ensures.lengths is) alone;
    }

pub applies_to_some_field-returns-then-applies-clause-told : goal.applies_to_some_field-returns-then-applies-clause-told
applies_to_some_field-returns-then-applies-clause-told t c =
    (λ h. (c.field-item.result, (c.loop-field.field-index, omega arith, sym c.field-item.is), c.applies.ensures.told.0 c.if-applies.true), λ h. refl)

pub applies_to_some_field-loop-field-preserved : goal.applies_to_some_field-loop-field-preserved
applies_to_some_field-loop-field-preserved t c =
    let f = c.field-item.result in
    one_more (λ (f : Field). IsClear c.args.table.now c.args.error f.desc) c.args.fields.now c.loop-field.field-index f c.field-item.is (omega arith) c.loop-field.invariant
    (clear_of c.args.table.now c.args.error f.desc c.applies.result c.applies.ensures.told c.applies.ensures.lengths c.if-applies.false)

pub applies_to_some_field-returns : goal.applies_to_some_field-returns
applies_to_some_field-returns t c = record {
  told = (λ h. absurd (true≢false (sym h)), λ h. absurd ((c.loop-field.invariant h.1.0 h.0 (omega (arith, h.1.1)) h.1.2).none h.2));
  lengths = λ is none f k. (c.loop-field.invariant k.0 f (omega (arith, k.1)) k.2).short is;
}

pub applies_to_some_payload-loop-variant-preserved : goal.applies_to_some_payload-loop-variant-preserved
applies_to_some_payload-loop-variant-preserved t c =
    let Q : Variant → Type 0 = λ v. (d : Desc) → v.payload ≡ Some d → IsClear c.args.table.now c.args.error d in
    one_more Q c.args.variants.now c.loop-variant.variant-index c.variant-item.result c.variant-item.is (omega arith) c.loop-variant.invariant
    (elim c.match-variant.branch [
      | applies_to_some_payload-in-Some+else-applies w ↦ λ d p.
          let same : w.in-Some.payload ≡ d = cc (w.in-Some.is, p) in
          subst (IsClear c.args.table.now c.args.error) same
          (clear_of c.args.table.now c.args.error w.in-Some.payload w.applies.result w.applies.ensures.told w.applies.ensures.lengths w.if-applies.false)
      | applies_to_some_payload-in_default w ↦ λ d p. absurd (w.in_default.not-Some d p)
    ])

pub applies_to_some_payload-returns : goal.applies_to_some_payload-returns
applies_to_some_payload-returns t c = record {
  told = (λ h. absurd (true≢false (sym h)), λ h. absurd ((c.loop-variant.invariant h.2.0 h.0 (omega (arith, h.2.1)) h.2.2 h.1 h.3).none h.4));
  lengths = λ is none v d k p. (c.loop-variant.invariant k.0 v (omega (arith, k.1)) k.2 d p).short is;
}

pub applies_to_some_variant-returns-then-applies_to_some_field-clause-told : goal.applies_to_some_variant-returns-then-applies_to_some_field-clause-told
applies_to_some_variant-returns-then-applies_to_some_field-clause-told t c =
    let e = rw c.as_slice.ensures at c.applies_to_some_field.ensures.told in
    let h = e.0 c.if-applies_to_some_field.true in
    (λ x. (c.variant-item.result, h.0, (c.loop-variant.variant-index, omega arith, sym c.variant-item.is), h.1, h.2), λ x. refl)

pub applies_to_some_variant-loop-variant-preserved : goal.applies_to_some_variant-loop-variant-preserved
applies_to_some_variant-loop-variant-preserved t c =
    let told = rw c.as_slice.ensures at c.applies_to_some_field.ensures.told in
    let short = rw c.as_slice.ensures at c.applies_to_some_field.ensures.lengths in
    let e = c.if-applies_to_some_field.false in
    one_more (λ (v : TaggedVariant). (f : Field) → Contains (tagged_fields v) f → IsClear c.args.table.now c.args.error f.desc) c.args.variants.now c.loop-variant.variant-index c.variant-item.result
    c.variant-item.is (omega arith) c.loop-variant.invariant (λ f k. record { none = λ h. untrue told e (f, k, h); short = λ is. short is e f k })

pub applies_to_some_variant-returns : goal.applies_to_some_variant-returns
applies_to_some_variant-returns t c = record {
  told = (λ h. absurd (true≢false (sym h)), λ h. absurd ((c.loop-variant.invariant h.2.0 h.0 (omega (arith, h.2.1)) h.2.2 h.1 h.3).none h.4));
  lengths = λ is none v f k among. (c.loop-variant.invariant k.0 v (omega (arith, k.1)) k.2 f among).short is;
}

pub applies_to_some-loop-desc-preserved : goal.applies_to_some-loop-desc-preserved
applies_to_some-loop-desc-preserved t c =
    let d = c.desc-item.result in
    one_more (IsClear c.args.table.now c.args.error) c.args.descs.now c.loop-desc.desc-index d c.desc-item.is (omega arith) c.loop-desc.invariant
    (clear_of c.args.table.now c.args.error d c.applies.result c.applies.ensures.told c.applies.ensures.lengths c.if-applies.false)

pub applies_to_some-returns : goal.applies_to_some-returns
applies_to_some-returns t c = record {
  told = (λ h. absurd (true≢false (sym h)), λ h. absurd ((c.loop-desc.invariant h.1.0 h.0 (omega (arith, h.1.1)) h.1.2).none h.2));
  lengths = λ is none d k. (c.loop-desc.invariant k.0 d (omega (arith, k.1)) k.2).short is;
}
