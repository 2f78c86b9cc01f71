use Rattle.std.proofs.Common.{◌≡◌, ℕ, ◌<◌, get_or}
use Rattle.schema_values.specs.Sound.{AreDistinct}
use Rattle.descriptors.specs.declared.desc.TaggedVariant.{TaggedVariant}
use Rattle.typed_values.specs.Checks.{names_of_fields}
use Rattle.typed_values.proofs.flaws.has_doubled_field.Given as goal

abbrev pub invariant-loop-variant : goal.invariant-loop-variant
invariant-loop-variant l = (k : ℕ) (v : TaggedVariant) → k < l.variant-index → get_or l.variants k v ≡ v → AreDistinct (names_of_fields v)
