use Rattle.std.proofs.Common.{◌≡◌, suc, drop, length}
use denote.Param.Weighed.{most}
use Rattle.descriptors.specs.declared.tree.Pair.{size-Pair}
use Rattle.descriptors.specs.declared.tree.Tree.{size-Tree}
use Rattle.typed_values.specs.Fits.{each_fits, fields_fit, fits_under}
use Rattle.typed_values.proofs.Measure.{at_size, any_at_size, size_alone}
use Rattle.typed_values.proofs.scope.Scope.+fits.Given as goal

abbrev pub decreases-fits_at : goal.decreases-fits_at
decreases-fits_at l = at_size l.self.now.table.now l.self.now.whole.now (size-Tree l.tree.now) l.desc.now

abbrev pub decreases-option_fits : goal.decreases-option_fits
decreases-option_fits l = suc (size_alone l.self.now.table.now l.self.now.whole.now (size-Tree l.tree.now))

abbrev pub decreases-items_fit : goal.decreases-items_fit
decreases-items_fit l = suc (size_alone l.self.now.table.now l.self.now.whole.now (size-Tree l.tree.now))

abbrev pub decreases-each_fits : goal.decreases-each_fits
decreases-each_fits l = size_alone l.self.now.table.now l.self.now.whole.now (suc (most size-Tree l.trees.now))

abbrev pub decreases-entries_fit : goal.decreases-entries_fit
decreases-entries_fit l = suc (size_alone l.self.now.table.now l.self.now.whole.now (size-Tree l.tree.now))

abbrev pub decreases-values_fit : goal.decreases-values_fit
decreases-values_fit l = size_alone l.self.now.table.now l.self.now.whole.now (suc (most size-Pair l.pairs.now))

abbrev pub decreases-fields_fit : goal.decreases-fields_fit
decreases-fields_fit l = suc (size_alone l.self.now.table.now l.self.now.whole.now (size-Tree l.tree.now))

abbrev pub decreases-parts_fit : goal.decreases-parts_fit
decreases-parts_fit l = size_alone l.self.now.table.now l.self.now.whole.now (suc (most size-Tree l.trees.now))

abbrev pub decreases-field_fits : goal.decreases-field_fits
decreases-field_fits l = any_at_size l.self.now.table.now l.self.now.whole.now (size-Tree l.tree.now)

abbrev pub decreases-external_fits : goal.decreases-external_fits
decreases-external_fits l = suc (size_alone l.self.now.table.now l.self.now.whole.now (size-Tree l.tree.now))

abbrev pub decreases-payload_fits : goal.decreases-payload_fits
decreases-payload_fits l = any_at_size l.self.now.table.now l.self.now.whole.now (size-Tree l.tree.now)

abbrev pub decreases-tagged_fits : goal.decreases-tagged_fits
decreases-tagged_fits l = suc (size_alone l.self.now.table.now l.self.now.whole.now (size-Tree l.tree.now))

abbrev pub decreases-choice_fits : goal.decreases-choice_fits
decreases-choice_fits l = suc (size_alone l.self.now.table.now l.self.now.whole.now (size-Tree l.tree.now))

abbrev pub invariant-each_fits-loop-tree : goal.invariant-each_fits-loop-tree
invariant-each_fits-loop-tree l =
    each_fits (λ t. fits_under l.self.table.now l.self.whole.now t l.item) l.trees
    ≡ each_fits (λ t. fits_under l.self.table.now l.self.whole.now t l.item) (drop l.tree-index l.trees)

abbrev pub invariant-values_fit-loop-pair : goal.invariant-values_fit-loop-pair
invariant-values_fit-loop-pair l =
    each_fits (λ p. fits_under l.self.table.now l.self.whole.now p.value l.value) l.pairs
    ≡ each_fits (λ p. fits_under l.self.table.now l.self.whole.now p.value l.value) (drop l.pair-index l.pairs)

abbrev pub invariant-parts_fit-loop-field : goal.invariant-parts_fit-loop-field
invariant-parts_fit-loop-field l =
    fields_fit (fits_under l.self.table.now l.self.whole.now) l.fields l.trees
    ≡ fields_fit (fits_under l.self.table.now l.self.whole.now) (drop (length l.yielded) l.fields) (drop (length l.yielded) l.trees)
