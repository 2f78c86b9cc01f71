use Rattle.std.proofs.Common.{◌≡◌, take}
use Rattle.descriptors.proofs.desc.+copy.Given as goal

abbrev pub invariant-copy_descs-loop-desc : goal.invariant-copy_descs-loop-desc
invariant-copy_descs-loop-desc l = l.copies ≡ take l.desc-index l.descs

abbrev pub invariant-copy_fields-loop-field : goal.invariant-copy_fields-loop-field
invariant-copy_fields-loop-field l = l.copies ≡ take l.field-index l.fields

abbrev pub invariant-copy_tagged-loop-variant : goal.invariant-copy_tagged-loop-variant
invariant-copy_tagged-loop-variant l = l.copies ≡ take l.variant-index l.variants

abbrev pub invariant-copy_variants-loop-variant : goal.invariant-copy_variants-loop-variant
invariant-copy_variants-loop-variant l = l.copies ≡ take l.variant-index l.variants
