use Rattle.std.proofs.Common.{◌≡◌, ◌++◌, suc, map, take, drop, length}
use denote.Param.Weighed.{most}
use Rattle.descriptors.specs.declared.tree.Tree.{size-Tree, out-Tree}
use Rattle.typed_values.specs.Encoding.{is_none_level, pair_written, members_written, written_under}
use Rattle.typed_values.proofs.Measure.{at_size, any_at_size, size_alone}
use Rattle.typed_values.proofs.scope.Scope.+encode.Given as goal

abbrev pub decreases-encode_at : goal.decreases-encode_at
decreases-encode_at l = at_size l.self.now.table.now l.self.now.whole.now (size-Tree l.tree.now) l.desc.now

abbrev pub decreases-encode_option : goal.decreases-encode_option
decreases-encode_option l = suc (size_alone l.self.now.table.now l.self.now.whole.now (size-Tree l.tree.now))

abbrev pub decreases-encode_list : goal.decreases-encode_list
decreases-encode_list l = suc (size_alone l.self.now.table.now l.self.now.whole.now (size-Tree l.tree.now))

abbrev pub decreases-encode_map : goal.decreases-encode_map
decreases-encode_map l = suc (size_alone l.self.now.table.now l.self.now.whole.now (size-Tree l.tree.now))

abbrev pub decreases-encode_struct : goal.decreases-encode_struct
decreases-encode_struct l = suc (size_alone l.self.now.table.now l.self.now.whole.now (size-Tree l.tree.now))

abbrev pub decreases-encode_fields : goal.decreases-encode_fields
decreases-encode_fields l = size_alone l.self.now.table.now l.self.now.whole.now (suc (most size-Tree l.trees.now))

abbrev pub decreases-encode_field : goal.decreases-encode_field
decreases-encode_field l = any_at_size l.self.now.table.now l.self.now.whole.now (size-Tree l.tree.now)

abbrev pub decreases-encode_choice : goal.decreases-encode_choice
decreases-encode_choice l = suc (size_alone l.self.now.table.now l.self.now.whole.now (size-Tree l.tree.now))

abbrev pub decreases-encode_external : goal.decreases-encode_external
decreases-encode_external l = suc (size_alone l.self.now.table.now l.self.now.whole.now (size-Tree l.tree.now))

abbrev pub decreases-encode_tagged : goal.decreases-encode_tagged
decreases-encode_tagged l = suc (size_alone l.self.now.table.now l.self.now.whole.now (size-Tree l.tree.now))

abbrev pub decreases-encode_variant : goal.decreases-encode_variant
decreases-encode_variant l = any_at_size l.self.now.table.now l.self.now.whole.now (size-Tree l.tree.now)

abbrev pub decreases-encode_tagged_variant : goal.decreases-encode_tagged_variant
decreases-encode_tagged_variant l = suc (size_alone l.self.now.table.now l.self.now.whole.now (size-Tree l.tree.now))

abbrev pub invariant-encode_list-loop-tree : goal.invariant-encode_list-loop-tree
invariant-encode_list-loop-tree l = l.items ≡ map (λ t. written_under l.self.table.now l.self.whole.now t l.item) (take l.tree-index l.tree-items)

abbrev pub invariant-encode_map-loop-pair : goal.invariant-encode_map-loop-pair
invariant-encode_map-loop-pair l = l.members ≡ map (pair_written (λ t. written_under l.self.table.now l.self.whole.now t l.value)) (take l.pair-index l.pair-items)

abbrev pub invariant-encode_fields-loop-field : goal.invariant-encode_fields-loop-field
invariant-encode_fields-loop-field l =
    l.fn.members ++ members_written (λ t. is_none_level (out-Tree t)) (written_under l.self.table.now l.self.whole.now) l.fields l.trees
    ≡ l.members ++ members_written (λ t. is_none_level (out-Tree t)) (written_under l.self.table.now l.self.whole.now) (drop (length l.yielded) l.fields) (drop (length l.yielded) l.trees)
