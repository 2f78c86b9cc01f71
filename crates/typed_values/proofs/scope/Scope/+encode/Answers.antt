use Rattle.std.proofs.Common.{rules, suc, ◌≡◌, ◌<◌, Some, None, IfSome, refl, sym, ◌∙◌, ap, subst, arith, length}
use Rattle.std.proofs.lemmas.List.{length-append, map_more}
use Rattle.std.proofs.lemmas.Option.{slice_get_read, slice_get_past}
use Rattle.std.proofs.lemmas.Slice.Zip.{zip_turn, zip_end}
use denote.Param.Weighed.{most}
use Rattle.schema_values.specs.Member.{member}
use Rattle.descriptors.specs.declared.tree.Pair.{size-Pair}
use Rattle.descriptors.specs.declared.tree.Tree.{Tree, size-Tree}
use Rattle.descriptors.specs.Definitions.{tagged_name}
use Rattle.typed_values.specs.Encoding.{pair_written, written_under}
use Rattle.typed_values.specs.Fits.{field_desc}
use Rattle.typed_values.specs.Parts.{IsPart}
use Rattle.typed_values.proofs.Arms.{definition_is_part}
use Rattle.typed_values.proofs.EncodeRows.{members_kept, members_end, written_any, written_null, written_scalar, written_enumeration, written_option, written_list, written_map, written_struct, written_external, written_tagged, written_untagged, written_ref, chosen_row, external_row, tagged_row, tagged_members, untagged}
use Rattle.typed_values.proofs.EncodeSteps.{skipped_written, is_none_tree, put_behind}
use Rattle.typed_values.proofs.FitRows.{skipped_desc, below_true, below_false}
use Rattle.typed_values.proofs.Inside.{part_of_option, part_of_list, part_of_map, parts_of_untagged, fields_of_struct, payloads_of_external, variants_of_tagged}
use Rattle.typed_values.proofs.Measure.{ref-lt, alone-lt-at, at-lt-any, alone-lt-any, any-lt-alone, at-lt-alone}
use Rattle.typed_values.proofs.TreeSizes.{size_some, size_items, size_entries, size_parts, size_choice, tree_smaller, value_smaller}
use Rattle.typed_values.proofs.scope.Scope.+encode.Goals as goal

pub encode_at-encode_option-requires : goal.encode_at-encode_option-requires
encode_at-encode_option-requires t c =
    let less = alone-lt-at c.args.self.now.table.now c.args.self.now.whole.now (size-Tree c.args.tree.now) c.args.desc.now in
    (omega (arith, c.decreases, less), rw c.get.ensures (part_of_option c.requires c.in-Option.inner c.in-Option.is))

pub encode_at-encode_list-requires : goal.encode_at-encode_list-requires
encode_at-encode_list-requires t c =
    let less = alone-lt-at c.args.self.now.table.now c.args.self.now.whole.now (size-Tree c.args.tree.now) c.args.desc.now in
    (omega (arith, c.decreases, less), rw c.get-in-List.ensures (part_of_list c.requires c.in-List.item _ _ c.in-List.is))

pub encode_at-encode_map-requires : goal.encode_at-encode_map-requires
encode_at-encode_map-requires t c =
    let less = alone-lt-at c.args.self.now.table.now c.args.self.now.whole.now (size-Tree c.args.tree.now) c.args.desc.now in
    (omega (arith, c.decreases, less), rw c.get-in-Map.ensures (part_of_map c.requires c.in-Map.value c.in-Map.is))

pub encode_at-encode_struct-requires : goal.encode_at-encode_struct-requires
encode_at-encode_struct-requires t c =
    let less = alone-lt-at c.args.self.now.table.now c.args.self.now.whole.now (size-Tree c.args.tree.now) c.args.desc.now in
    (omega (arith, c.decreases, less), rw c.as_slice-in-Struct.ensures (fields_of_struct c.requires c.in-Struct.fields c.in-Struct.deny_unknown c.in-Struct.is))

pub encode_at-encode_external-requires : goal.encode_at-encode_external-requires
encode_at-encode_external-requires t c =
    let less = alone-lt-at c.args.self.now.table.now c.args.self.now.whole.now (size-Tree c.args.tree.now) c.args.desc.now in
    (omega (arith, c.decreases, less), rw c.as_slice-in-External.ensures (payloads_of_external c.requires c.in-External.variants c.in-External.is))

pub encode_at-encode_tagged-requires : goal.encode_at-encode_tagged-requires
encode_at-encode_tagged-requires t c =
    let less = alone-lt-at c.args.self.now.table.now c.args.self.now.whole.now (size-Tree c.args.tree.now) c.args.desc.now in
    (omega (arith, c.decreases, less), rw c.as_slice-in-Tagged.ensures (variants_of_tagged c.requires c.in-Tagged.tag c.in-Tagged.variants c.in-Tagged.is))

pub encode_at-encode_choice-requires : goal.encode_at-encode_choice-requires
encode_at-encode_choice-requires t c =
    let less = alone-lt-at c.args.self.now.table.now c.args.self.now.whole.now (size-Tree c.args.tree.now) c.args.desc.now in
    (omega (arith, c.decreases, less), rw c.as_slice-in-Untagged.ensures (parts_of_untagged c.requires c.in-Untagged.alternatives c.in-Untagged.is))

pub encode_at-encode_at-requires : goal.encode_at-encode_at-requires
encode_at-encode_at-requires t c =
    let found = sym c.in-Some.ensures in
    let less = ref-lt c.args.self.now.table.now c.args.self.now.whole.now (size-Tree c.args.tree.now) c.args.desc.now (c.args.self.now.all_rest _ c.requires) c.in-Ref.name c.in-Some.definition.now c.in-Ref.is found in
    (omega (arith, c.decreases, less), definition_is_part _ _ c.in-Ref.name c.in-Some.definition.now found)

pub encode_at-returns-in-Any : goal.encode_at-returns-in-Any
encode_at-returns-in-Any t c =
    rw (written_any _ _ c.args.tree.now c.args.desc.now (c.args.self.now.all_rest _ c.requires) c.in-Any.is) c.encode_whole.ensures

pub encode_at-returns-in-Never : goal.encode_at-returns-in-Never
encode_at-returns-in-Never t c = sym (written_null _ _ c.args.tree.now c.args.desc.now (c.args.self.now.all_rest _ c.requires) c.in-Never.is)

pub encode_at-returns-in-Bool : goal.encode_at-returns-in-Bool
encode_at-returns-in-Bool t c =
    rw (written_scalar _ _ c.args.tree.now c.args.desc.now (c.args.self.now.all_rest _ c.requires) c.in-Bool.is) c.encode_scalar.ensures

pub encode_at-returns-in-Enumeration : goal.encode_at-returns-in-Enumeration
encode_at-returns-in-Enumeration t c =
    rw (written_enumeration _ _ c.args.tree.now c.args.desc.now (c.args.self.now.all_rest _ c.requires) c.in-Enumeration.names c.in-Enumeration.is, ← c.as_slice.ensures) c.encode_name.ensures

pub encode_at-returns-in-Option : goal.encode_at-returns-in-Option
encode_at-returns-in-Option t c = rw (written_option _ _ c.args.tree.now c.args.desc.now (c.args.self.now.all_rest _ c.requires) c.in-Option.inner c.in-Option.is, ← c.get.ensures) c.encode_option.ensures

pub encode_at-returns-in-List : goal.encode_at-returns-in-List
encode_at-returns-in-List t c = rw (written_list _ _ c.args.tree.now c.args.desc.now (c.args.self.now.all_rest _ c.requires) c.in-List.item _ _ c.in-List.is, ← c.get-in-List.ensures) c.encode_list.ensures

pub encode_at-returns-in-Map : goal.encode_at-returns-in-Map
encode_at-returns-in-Map t c = rw (written_map _ _ c.args.tree.now c.args.desc.now (c.args.self.now.all_rest _ c.requires) c.in-Map.value c.in-Map.is, ← c.get-in-Map.ensures) c.encode_map.ensures

pub encode_at-returns-in-Struct : goal.encode_at-returns-in-Struct
encode_at-returns-in-Struct t c = rw (written_struct _ _ c.args.tree.now c.args.desc.now (c.args.self.now.all_rest _ c.requires) c.in-Struct.fields _ c.in-Struct.is, ← c.as_slice-in-Struct.ensures) c.encode_struct.ensures

pub encode_at-returns-in-External : goal.encode_at-returns-in-External
encode_at-returns-in-External t c = rw (written_external _ _ c.args.tree.now c.args.desc.now (c.args.self.now.all_rest _ c.requires) c.in-External.variants c.in-External.is, ← c.as_slice-in-External.ensures) c.encode_external.ensures

pub encode_at-returns-in-Tagged : goal.encode_at-returns-in-Tagged
encode_at-returns-in-Tagged t c = rw (written_tagged _ _ c.args.tree.now c.args.desc.now (c.args.self.now.all_rest _ c.requires) c.in-Tagged.tag c.in-Tagged.variants c.in-Tagged.is, ← c.as_slice-in-Tagged.ensures) c.encode_tagged.ensures

pub encode_at-returns-in-Untagged : goal.encode_at-returns-in-Untagged
encode_at-returns-in-Untagged t c = rw (written_untagged _ _ c.args.tree.now c.args.desc.now (c.args.self.now.all_rest _ c.requires) c.in-Untagged.alternatives c.in-Untagged.is, ← c.as_slice-in-Untagged.ensures) c.encode_choice.ensures

pub encode_at-returns-in-Some : goal.encode_at-returns-in-Some
encode_at-returns-in-Some t c = rw (written_ref _ _ c.args.tree.now c.args.desc.now (c.args.self.now.all_rest _ c.requires) c.in-Ref.name (Some c.in-Some.definition.now) c.in-Ref.is (sym c.in-Some.ensures)) c.encode_at.ensures

pub encode_at-returns-in-None : goal.encode_at-returns-in-None
encode_at-returns-in-None t c = rw (written_ref _ _ c.args.tree.now c.args.desc.now (c.args.self.now.all_rest _ c.requires) c.in-Ref.name None c.in-Ref.is (sym c.in-None.ensures)) refl

pub encode_option-encode_at-requires : goal.encode_option-encode_at-requires
encode_option-encode_at-requires t c =
    let size : size-Tree c.args.tree.now ≡ suc (size-Tree c.in-Some.tree) = ap size-Tree c.in-Some.is ∙ size_some c.in-Some.tree in
    let less = at-lt-alone c.args.self.now.table.now c.args.self.now.whole.now (size-Tree c.in-Some.tree) (size-Tree c.args.tree.now) c.args.inner.now (omega arith) in
    rw c.get.ensures (omega (arith, c.decreases, less), c.requires)

pub encode_list-encode_at-requires : goal.encode_list-encode_at-requires
encode_list-encode_at-requires t c =
    let size : size-Tree c.args.tree.now ≡ suc (most size-Tree c.in-List.trees) = ap size-Tree c.in-List.is ∙ size_items c.in-List.trees in
    let smaller : size-Tree c.tree-item.result < suc (most size-Tree c.in-List.trees) = rw (← c.as_slice-tree-items.ensures) (tree_smaller c.as_slice-tree-items.result.now c.loop-tree.tree-index c.tree-item.result (omega arith) c.tree-item.is) in
    let less = at-lt-alone c.args.self.now.table.now c.args.self.now.whole.now (size-Tree c.tree-item.result) (size-Tree c.args.tree.now) c.args.item.now (omega arith) in
    (omega (arith, c.decreases, less), c.requires)

pub encode_list-loop-tree-preserved : goal.encode_list-loop-tree-preserved
encode_list-loop-tree-preserved t c =
    let w = λ (s : Tree). written_under c.args.self.now.table.now c.args.self.now.whole.now s c.args.item.now in
    let put = put_behind c.encode_at.result (λ json. json) c.loop-tree.items c.push_item.new.items (w c.tree-item.result) c.in_ok-push_item.ensures c.encode_at.ensures in
    let more = map_more w c.as_slice-tree-items.result.now c.loop-tree.tree-index c.tree-item.result (omega arith) in
    rw (put, c.loop-tree.invariant, more, ← c.tree-item.is) refl

pub encode_map-encode_at-value-requires : goal.encode_map-encode_at-value-requires
encode_map-encode_at-value-requires t c =
    let size : size-Tree c.args.tree.now ≡ suc (most size-Pair c.in-Map.pairs) = ap size-Tree c.in-Map.is ∙ size_entries c.in-Map.pairs in
    let smaller : size-Tree c.pair-item.result.value < most size-Pair c.in-Map.pairs = rw (← c.as_slice-pair-items.ensures) (value_smaller c.as_slice-pair-items.result.now c.loop-pair.pair-index c.pair-item.result (omega arith) c.pair-item.is) in
    let less = at-lt-alone c.args.self.now.table.now c.args.self.now.whole.now (size-Tree c.pair-item.result.value) (size-Tree c.args.tree.now) c.args.value.now (omega arith) in
    (omega (arith, c.decreases, less), c.requires)

pub encode_map-loop-pair-preserved : goal.encode_map-loop-pair-preserved
encode_map-loop-pair-preserved t c =
    let w = λ (s : Tree). written_under c.args.self.now.table.now c.args.self.now.whole.now s c.args.value.now in
    let put = put_behind c.encode_at-value.result (member c.pair-item.result.key) c.loop-pair.members c.push_member.new.members (w c.pair-item.result.value) c.in_ok-push_member.ensures c.encode_at-value.ensures in
    let more = map_more (pair_written w) c.as_slice-pair-items.result.now c.loop-pair.pair-index c.pair-item.result (omega arith) in
    rw (put, c.loop-pair.invariant, more, ← c.pair-item.is) refl

pub encode_fields-encode_field-value-requires : goal.encode_fields-encode_field-value-requires
encode_fields-encode_field-value-requires t c =
    let turn = zip_turn c.args.fields.now c.args.trees.now c.loop-field.yielded c.into_iter-field-iterator.result c.loop-field.field-iterator c.next.new.self c.next.result (search rules) (search rules) c.loop-field.yielded_by (c.in-Some.field, c.in-Some.tree) c.in-Some.is c.next.ensures.steps in
    let smaller = tree_smaller c.args.trees.now (length c.loop-field.yielded) c.in-Some.tree.now turn.1 (turn.3 c.in-Some.tree.now) in
    let less = any-lt-alone c.args.self.now.table.now c.args.self.now.whole.now (size-Tree c.in-Some.tree.now) (suc (most size-Tree c.args.trees.now)) smaller in
    (omega (arith, c.decreases, less), c.requires c.in-Some.field.now (length c.loop-field.yielded, turn.0, sym (turn.2 c.in-Some.field.now)))

pub encode_fields-loop-field-preserved-in-Continue-1 : goal.encode_fields-loop-field-preserved-in-Continue-1
encode_fields-loop-field-preserved-in-Continue-1 t c =
    let turn = zip_turn c.args.fields.now c.args.trees.now c.loop-field.yielded c.into_iter-field-iterator.result c.loop-field.field-iterator c.next.new.self c.next.result (search rules) (search rules) c.loop-field.yielded_by (c.in-Some.field, c.in-Some.tree) c.in-Some.is c.next.ensures.steps in
    let value = written_under c.args.self.now.table.now c.args.self.now.whole.now c.in-Some.tree.now (field_desc c.in-Some.field.now) in
    let put = put_behind c.encode_field-value.result (member c.in-Some.field.now.name) c.loop-field.members c.push_member.new.members value c.in_ok-push_member.ensures c.encode_field-value.ensures in
    members_kept is_none_tree (written_under c.args.self.now.table.now c.args.self.now.whole.now) c.args.fields.now c.args.trees.now (length c.loop-field.yielded) _ c.in-Some.field.now c.in-Some.tree.now (length-append c.loop-field.yielded _) turn.0 turn.1 (turn.2 c.in-Some.field.now) (turn.3 c.in-Some.tree.now) (sym c.is_left_out.ensures ∙ cc)
    _ c.loop-field.members c.push_member.new.members (member c.in-Some.field.now.name value) refl put c.loop-field.invariant

pub encode_fields-returns : goal.encode_fields-returns
encode_fields-returns t c =
    let over = zip_end c.args.fields.now c.args.trees.now c.loop-field.yielded c.into_iter-field-iterator.result c.loop-field.field-iterator c.next.new.self c.next.result (search rules) (search rules) c.loop-field.yielded_by c.in-None.is c.next.ensures.steps in
    members_end is_none_tree (written_under c.args.self.now.table.now c.args.self.now.whole.now) c.args.fields.now c.args.trees.now (length c.loop-field.yielded) over _ c.loop-field.members c.loop-field.invariant

pub encode_field-encode_at-requires : goal.encode_field-encode_at-requires
encode_field-encode_at-requires t c =
    let less = at-lt-any c.args.self.now.table.now c.args.self.now.whole.now (size-Tree c.args.tree.now) c.args.field.now.desc in
    (omega (arith, c.decreases, less), c.requires)

pub encode_field-encode_option-requires : goal.encode_field-encode_option-requires
encode_field-encode_option-requires t c =
    let less = alone-lt-any c.args.self.now.table.now c.args.self.now.whole.now (size-Tree c.args.tree.now) in
    (omega (arith, c.decreases, less), c.requires)

pub encode_field-returns-in-Skipped : goal.encode_field-returns-in-Skipped
encode_field-returns-in-Skipped t c =
    rw (skipped_desc c.args.field.now c.in-Skipped.is, skipped_written c.args.self.now.table.now c.args.self.now.whole.now c.args.tree.now c.args.field.now.desc) c.encode_option.ensures

pub encode_external-encode_variant-requires : goal.encode_external-encode_variant-requires
encode_external-encode_variant-requires t c =
    let size : size-Tree c.args.tree.now ≡ suc (size-Tree c.in-Variant.tree) = ap size-Tree c.in-Variant.is ∙ size_choice c.in-Variant.place c.in-Variant.tree in
    let less = any-lt-alone c.args.self.now.table.now c.args.self.now.whole.now (size-Tree c.in-Variant.tree) (size-Tree c.args.tree.now) (omega arith) in
    rw c.get-in-Some.ensures (omega (arith, c.decreases, less), c.requires c.in-Some.variant.now (c.in-Variant.place, below_true _ _ c.in-Some.ensures.lookup.0, sym c.in-Some.ensures.lookup.1))

pub encode_external-returns-in-Some : goal.encode_external-returns-in-Some
encode_external-returns-in-Some t c =
    rw (external_row (written_under c.args.self.now.table.now c.args.self.now.whole.now) c.args.variants.now c.args.tree.now c.in-Variant.place c.in-Variant.tree (Some c.in-Some.variant.now) c.in-Variant.is (slice_get_read c.args.variants.now _ c.in-Variant.place c.in-Some.variant.now refl (below_true _ _ c.in-Some.ensures.lookup.0) c.in-Some.ensures.lookup.1), ← c.get-in-Some.ensures) c.encode_variant.ensures

pub encode_external-returns-in-None : goal.encode_external-returns-in-None
encode_external-returns-in-None t c =
    rw (external_row (written_under c.args.self.now.table.now c.args.self.now.whole.now) c.args.variants.now c.args.tree.now c.in-Variant.place c.in-Variant.tree None c.in-Variant.is (slice_get_past c.args.variants.now c.in-Variant.place (below_false _ _ c.in-None.ensures.lookup.0))) refl

pub encode_variant-encode_at-requires : goal.encode_variant-encode_at-requires
encode_variant-encode_at-requires t c =
    let less = at-lt-any c.args.self.now.table.now c.args.self.now.whole.now (size-Tree c.args.tree.now) c.in-Some.payload in
    (omega (arith, c.decreases, less), subst (λ o. IfSome o (IsPart c.args.self.now.table.now c.args.self.now.whole.now)) c.in-Some.is c.requires)

pub encode_tagged-encode_tagged_variant-requires : goal.encode_tagged-encode_tagged_variant-requires
encode_tagged-encode_tagged_variant-requires t c =
    let size : size-Tree c.args.tree.now ≡ suc (size-Tree c.in-Variant.tree) = ap size-Tree c.in-Variant.is ∙ size_choice c.in-Variant.place c.in-Variant.tree in
    let less = any-lt-alone c.args.self.now.table.now c.args.self.now.whole.now (size-Tree c.in-Variant.tree) (size-Tree c.args.tree.now) (omega arith) in
    let least = alone-lt-any c.args.self.now.table.now c.args.self.now.whole.now (size-Tree c.in-Variant.tree) in
    rw c.get-in-Some.ensures (omega (arith, c.decreases, less, least), c.requires c.in-Some.variant.now (c.in-Variant.place, below_true _ _ c.in-Some.ensures.lookup.0, sym c.in-Some.ensures.lookup.1))

pub encode_tagged-returns-in-Some : goal.encode_tagged-returns-in-Some
encode_tagged-returns-in-Some t c =
    rw (tagged_row (written_under c.args.self.now.table.now c.args.self.now.whole.now) c.args.tag.now c.args.variants.now c.args.tree.now c.in-Variant.place c.in-Variant.tree (Some c.in-Some.variant.now) c.in-Variant.is (slice_get_read c.args.variants.now _ c.in-Variant.place c.in-Some.variant.now refl (below_true _ _ c.in-Some.ensures.lookup.0) c.in-Some.ensures.lookup.1), ← c.get-in-Some.ensures) c.encode_tagged_variant.ensures

pub encode_tagged-returns-in-None : goal.encode_tagged-returns-in-None
encode_tagged-returns-in-None t c =
    rw (tagged_row (written_under c.args.self.now.table.now c.args.self.now.whole.now) c.args.tag.now c.args.variants.now c.args.tree.now c.in-Variant.place c.in-Variant.tree None c.in-Variant.is (slice_get_past c.args.variants.now c.in-Variant.place (below_false _ _ c.in-None.ensures.lookup.0))) refl

pub encode_tagged_variant-encode_fields-requires : goal.encode_tagged_variant-encode_fields-requires
encode_tagged_variant-encode_fields-requires t c =
    let size : size-Tree c.args.tree.now ≡ suc (most size-Tree c.in-Fields.trees) = ap size-Tree c.in-Fields.is ∙ size_parts c.in-Fields.trees in
    rw (c.as_slice.ensures, c.as_slice-fields.ensures, ← size) (omega (arith, c.decreases), c.requires)

pub encode_tagged_variant-returns : goal.encode_tagged_variant-returns
encode_tagged_variant-returns t c =
    tagged_members c.args.self.now.table.now c.args.self.now.whole.now c.args.tree.now c.args.tag.now c.args.variant.now c.in-Fields.trees c.in-Fields.is c.args.tag.now (tagged_name c.args.variant.now) _ _ _ _ refl refl
    c.in_ok-members.ensures c.as_slice-fields.ensures c.as_slice.ensures c.in_ok-encode_fields.ensures

pub encode_tagged_variant-returns-in_default : goal.encode_tagged_variant-returns-in_default
encode_tagged_variant-returns-in_default t c = sym (untagged c.args.self.now.table.now c.args.self.now.whole.now c.args.tree.now c.args.tag.now c.args.variant.now c.in_default.not-Fields)

pub encode_choice-encode_at-requires : goal.encode_choice-encode_at-requires
encode_choice-encode_at-requires t c =
    let size : size-Tree c.args.tree.now ≡ suc (size-Tree c.in-Variant.tree) = ap size-Tree c.in-Variant.is ∙ size_choice c.in-Variant.place c.in-Variant.tree in
    let less = at-lt-alone c.args.self.now.table.now c.args.self.now.whole.now (size-Tree c.in-Variant.tree) (size-Tree c.args.tree.now) c.in-Some.alternative.now (omega arith) in
    rw c.get-in-Some.ensures (omega (arith, c.decreases, less), c.requires c.in-Some.alternative.now (c.in-Variant.place, below_true _ _ c.in-Some.ensures.lookup.0, sym c.in-Some.ensures.lookup.1))

pub encode_choice-returns-in-Some : goal.encode_choice-returns-in-Some
encode_choice-returns-in-Some t c =
    rw (chosen_row (written_under c.args.self.now.table.now c.args.self.now.whole.now) c.args.alternatives.now c.args.tree.now c.in-Variant.place c.in-Variant.tree (Some c.in-Some.alternative.now) c.in-Variant.is (slice_get_read c.args.alternatives.now _ c.in-Variant.place c.in-Some.alternative.now refl (below_true _ _ c.in-Some.ensures.lookup.0) c.in-Some.ensures.lookup.1), ← c.get-in-Some.ensures) c.encode_at.ensures

pub encode_choice-returns-in-None : goal.encode_choice-returns-in-None
encode_choice-returns-in-None t c =
    rw (chosen_row (written_under c.args.self.now.table.now c.args.self.now.whole.now) c.args.alternatives.now c.args.tree.now c.in-Variant.place c.in-Variant.tree None c.in-Variant.is (slice_get_past c.args.alternatives.now c.in-Variant.place (below_false _ _ c.in-None.ensures.lookup.0))) refl
