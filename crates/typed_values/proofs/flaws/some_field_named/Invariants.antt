use Rattle.std.proofs.Common.{◌≡◌, ◌≢◌, ℕ, ◌<◌, get_or}
use Rattle.std.specs.List.{AllByRecursion}
use Rattle.descriptors.specs.declared.desc.TaggedVariant.{TaggedVariant}
use Rattle.descriptors.specs.Definitions.{field_name, tagged_fields}
use Rattle.typed_values.proofs.flaws.some_field_named.Given as goal

abbrev pub invariant-loop-variant : goal.invariant-loop-variant
invariant-loop-variant l = (k : ℕ) (v : TaggedVariant) → k < l.variant-index → get_or l.variants k v ≡ v → AllByRecursion (λ f. l.name ≢ field_name f) (tagged_fields v)
