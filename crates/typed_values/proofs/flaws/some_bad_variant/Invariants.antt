use Rattle.std.proofs.Common.{◌≡◌, ℕ, ◌<◌, get_or}
use Rattle.std.specs.Prelude.{Contains}
use Rattle.descriptors.specs.declared.desc.Field.{Field}
use Rattle.descriptors.specs.declared.desc.TaggedVariant.{TaggedVariant}
use Rattle.typed_values.specs.Checks.{IsBadField}
use Rattle.descriptors.specs.Definitions.{tagged_fields}
use Rattle.typed_values.proofs.flaws.some_bad_variant.Given as goal

abbrev pub invariant-loop-variant : goal.invariant-loop-variant
invariant-loop-variant l = (k : ℕ) (v : TaggedVariant) → k < l.variant-index → get_or l.variants k v ≡ v → ((f : Field) × Contains (tagged_fields v) f × IsBadField l.table f) → ⊥
