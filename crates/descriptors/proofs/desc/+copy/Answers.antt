use Rattle.std.proofs.Common.{arith}
use Rattle.descriptors.proofs.Copied.{one_more_copied, all_copied}
use Rattle.descriptors.proofs.desc.+copy.Goals as goal

pub copy_variants-loop-variant-preserved : goal.copy_variants-loop-variant-preserved
copy_variants-loop-variant-preserved t c =
    one_more_copied c.args.variants.now c.loop-variant.copies c.loop-variant.variant-index c.loop-variant.invariant _ c.variant-item.result _ (omega arith) c.variant-item.is c.in_ok-copy.ensures c.in_ok-push.ensures.ok

pub copy_variants-returns : goal.copy_variants-returns
copy_variants-returns t c = all_copied c.args.variants.now c.loop-variant.copies c.loop-variant.variant-index c.loop-variant.invariant (omega arith)

pub copy_tagged-loop-variant-preserved : goal.copy_tagged-loop-variant-preserved
copy_tagged-loop-variant-preserved t c =
    one_more_copied c.args.variants.now c.loop-variant.copies c.loop-variant.variant-index c.loop-variant.invariant _ c.variant-item.result _ (omega arith) c.variant-item.is c.in_ok-copy.ensures c.in_ok-push.ensures.ok

pub copy_tagged-returns : goal.copy_tagged-returns
copy_tagged-returns t c = all_copied c.args.variants.now c.loop-variant.copies c.loop-variant.variant-index c.loop-variant.invariant (omega arith)

pub copy_fields-loop-field-preserved : goal.copy_fields-loop-field-preserved
copy_fields-loop-field-preserved t c =
    one_more_copied c.args.fields.now c.loop-field.copies c.loop-field.field-index c.loop-field.invariant _ c.field-item.result _ (omega arith) c.field-item.is c.in_ok-copy.ensures c.in_ok-push.ensures.ok

pub copy_fields-returns : goal.copy_fields-returns
copy_fields-returns t c = all_copied c.args.fields.now c.loop-field.copies c.loop-field.field-index c.loop-field.invariant (omega arith)

pub copy_descs-loop-desc-preserved : goal.copy_descs-loop-desc-preserved
copy_descs-loop-desc-preserved t c =
    one_more_copied c.args.descs.now c.loop-desc.copies c.loop-desc.desc-index c.loop-desc.invariant _ c.desc-item.result _ (omega arith) c.desc-item.is c.in_ok-copy.ensures c.in_ok-push.ensures.ok

pub copy_descs-returns : goal.copy_descs-returns
copy_descs-returns t c = all_copied c.args.descs.now c.loop-desc.copies c.loop-desc.desc-index c.loop-desc.invariant (omega arith)
