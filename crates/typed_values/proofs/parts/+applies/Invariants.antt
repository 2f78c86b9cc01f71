use Rattle.std.proofs.Common.{◌≡◌, ℕ, ◌<◌, Some, get_or}
use Rattle.std.specs.Prelude.{Contains}
use Rattle.descriptors.specs.declared.desc.Desc.{Desc}
use Rattle.descriptors.specs.declared.desc.Field.{Field}
use Rattle.descriptors.specs.declared.desc.TaggedVariant.{TaggedVariant}
use Rattle.descriptors.specs.declared.desc.Variant.{Variant}
use Rattle.descriptors.specs.Definitions.{tagged_fields}
use Rattle.typed_values.proofs.Within.{IsClear}
use Rattle.typed_values.proofs.parts.+applies.Given as goal

abbrev pub invariant-applies_to_some_field-loop-field : goal.invariant-applies_to_some_field-loop-field
invariant-applies_to_some_field-loop-field l =
    (k : ℕ) (f : Field) → k < l.field-index → get_or l.fields k f ≡ f → IsClear l.table l.error f.desc

abbrev pub invariant-applies_to_some_payload-loop-variant : goal.invariant-applies_to_some_payload-loop-variant
invariant-applies_to_some_payload-loop-variant l =
    (k : ℕ) (v : Variant) → k < l.variant-index → get_or l.variants k v ≡ v → (d : Desc) → v.payload ≡ Some d → IsClear l.table l.error d

abbrev pub invariant-applies_to_some_variant-loop-variant : goal.invariant-applies_to_some_variant-loop-variant
invariant-applies_to_some_variant-loop-variant l =
    (k : ℕ) (v : TaggedVariant) → k < l.variant-index → get_or l.variants k v ≡ v → (f : Field) → Contains (tagged_fields v) f → IsClear l.table l.error f.desc

abbrev pub invariant-applies_to_some-loop-desc : goal.invariant-applies_to_some-loop-desc
invariant-applies_to_some-loop-desc l =
    (k : ℕ) (d : Desc) → k < l.desc-index → get_or l.descs k d ≡ d → IsClear l.table l.error d
