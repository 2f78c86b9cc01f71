use Rattle.std.proofs.Common.{rules, suc, ◌≡◌, false, Some, None, IfSome, refl, sym, ◌∙◌, ap, subst, arith, length}
use Rattle.std.proofs.lemmas.Option.{slice_get_read, slice_get_past}
use Rattle.std.proofs.lemmas.Slice.Zip.{zip_turn}
use denote.Param.Weighed.{most}
use Rattle.descriptors.specs.declared.tree.Pair.{size-Pair}
use Rattle.descriptors.specs.declared.tree.Tree.{size-Tree, out-Tree}
use Rattle.descriptors.specs.declared.tree.Tree.TheVariants as tree
use Rattle.typed_values.specs.Fits.{fits_under, parts_fit, payload_of, struct_of}
use Rattle.descriptors.specs.Definitions.{tagged_fields}
use Rattle.typed_values.specs.Parts.{IsPart}
use Rattle.typed_values.proofs.Arms.{definition_is_part}
use Rattle.typed_values.proofs.FitRows.{choice_row, given_row, skipped_desc, below_true, below_false, unequal, fits_any, fits_never, fits_null, fits_bool, fits_char, fits_int, fits_text, fits_enumeration, fits_option, fits_list, fits_map, fits_struct, fits_external, fits_tagged, fits_untagged, fits_ref, lengths_differ}
use Rattle.typed_values.proofs.FitSteps.{nought_row, skipped_row, struct_row}
use Rattle.typed_values.proofs.Inside.{part_of_option, part_of_list, part_of_map, parts_of_untagged, fields_of_struct, payloads_of_external, variants_of_tagged}
use Rattle.typed_values.proofs.Measure.{ref-lt, alone-lt-at, at-lt-any, alone-lt-any, any-lt-alone, at-lt-alone}
use Rattle.typed_values.proofs.TreeSizes.{size_some, size_items, size_entries, size_choice, tree_smaller, value_smaller}
use Rattle.typed_values.proofs.scope.Scope.+fits.Goals as goal

pub fits_at-option_fits-requires : goal.fits_at-option_fits-requires
fits_at-option_fits-requires t c =
    let less = alone-lt-at c.args.self.now.table.now c.args.self.now.whole.now (size-Tree c.args.tree.now) c.args.desc.now in
    (omega (arith, c.decreases, less), rw c.get.ensures (part_of_option c.requires c.in-Option.inner c.in-Option.is))

pub fits_at-items_fit-requires : goal.fits_at-items_fit-requires
fits_at-items_fit-requires t c =
    let less = alone-lt-at c.args.self.now.table.now c.args.self.now.whole.now (size-Tree c.args.tree.now) c.args.desc.now in
    (omega (arith, c.decreases, less), rw c.get-in-List.ensures (part_of_list c.requires c.in-List.item c.in-List.min c.in-List.max c.in-List.is))

pub fits_at-entries_fit-requires : goal.fits_at-entries_fit-requires
fits_at-entries_fit-requires t c =
    let less = alone-lt-at c.args.self.now.table.now c.args.self.now.whole.now (size-Tree c.args.tree.now) c.args.desc.now in
    (omega (arith, c.decreases, less), rw c.get-in-Map.ensures (part_of_map c.requires c.in-Map.value c.in-Map.is))

pub fits_at-fields_fit-requires : goal.fits_at-fields_fit-requires
fits_at-fields_fit-requires t c =
    let less = alone-lt-at c.args.self.now.table.now c.args.self.now.whole.now (size-Tree c.args.tree.now) c.args.desc.now in
    (omega (arith, c.decreases, less), rw c.as_slice-in-Struct.ensures (fields_of_struct c.requires c.in-Struct.fields c.in-Struct.deny_unknown c.in-Struct.is))

pub fits_at-external_fits-requires : goal.fits_at-external_fits-requires
fits_at-external_fits-requires t c =
    let less = alone-lt-at c.args.self.now.table.now c.args.self.now.whole.now (size-Tree c.args.tree.now) c.args.desc.now in
    (omega (arith, c.decreases, less), rw c.as_slice-in-External.ensures (payloads_of_external c.requires c.in-External.variants c.in-External.is))

pub fits_at-tagged_fits-requires : goal.fits_at-tagged_fits-requires
fits_at-tagged_fits-requires t c =
    let less = alone-lt-at c.args.self.now.table.now c.args.self.now.whole.now (size-Tree c.args.tree.now) c.args.desc.now in
    (omega (arith, c.decreases, less), rw c.as_slice-in-Tagged.ensures (variants_of_tagged c.requires _ c.in-Tagged.variants c.in-Tagged.is))

pub fits_at-choice_fits-requires : goal.fits_at-choice_fits-requires
fits_at-choice_fits-requires t c =
    let less = alone-lt-at c.args.self.now.table.now c.args.self.now.whole.now (size-Tree c.args.tree.now) c.args.desc.now in
    (omega (arith, c.decreases, less), rw c.as_slice-in-Untagged.ensures (parts_of_untagged c.requires c.in-Untagged.alternatives c.in-Untagged.is))

pub fits_at-fits_at-requires : goal.fits_at-fits_at-requires
fits_at-fits_at-requires t c =
    let found = sym c.in-Some.ensures in
    let less = ref-lt c.args.self.now.table.now c.args.self.now.whole.now (size-Tree c.args.tree.now) c.args.desc.now (c.args.self.now.all_rest _ c.requires) c.in-Ref.name c.in-Some.definition.now c.in-Ref.is found in
    (omega (arith, c.decreases, less), definition_is_part _ _ c.in-Ref.name c.in-Some.definition.now found)

pub fits_at-returns-in-Any : goal.fits_at-returns-in-Any
fits_at-returns-in-Any t c = c.whole_fits.ensures ∙ sym (fits_any _ _ _ _ (c.args.self.now.all_rest _ c.requires) c.in-Any.is)

pub fits_at-returns-in-Never : goal.fits_at-returns-in-Never
fits_at-returns-in-Never t c = sym (fits_never _ _ _ _ (c.args.self.now.all_rest _ c.requires) c.in-Never.is)

pub fits_at-returns-in-Null : goal.fits_at-returns-in-Null
fits_at-returns-in-Null t c = c.nought_fits.ensures ∙ sym (fits_null _ _ _ _ (c.args.self.now.all_rest _ c.requires) c.in-Null.is)

pub fits_at-returns-in-Bool : goal.fits_at-returns-in-Bool
fits_at-returns-in-Bool t c = c.truth_fits.ensures ∙ sym (fits_bool _ _ _ _ (c.args.self.now.all_rest _ c.requires) c.in-Bool.is)

pub fits_at-returns-in-Char : goal.fits_at-returns-in-Char
fits_at-returns-in-Char t c = c.character_fits.ensures ∙ sym (fits_char _ _ _ _ (c.args.self.now.all_rest _ c.requires) c.in-Char.is)

pub fits_at-returns-in-Int : goal.fits_at-returns-in-Int
fits_at-returns-in-Int t c = c.number_fits.ensures ∙ sym (fits_int _ _ _ _ (c.args.self.now.all_rest _ c.requires) c.in-Int.kind c.in-Int.min c.in-Int.max c.in-Int.is)

pub fits_at-returns-in-Text : goal.fits_at-returns-in-Text
fits_at-returns-in-Text t c = c.words_fit.ensures ∙ sym (fits_text _ _ _ _ (c.args.self.now.all_rest _ c.requires) c.in-Text.min c.in-Text.max _ c.in-Text.is)

pub fits_at-returns-in-Enumeration : goal.fits_at-returns-in-Enumeration
fits_at-returns-in-Enumeration t c = rw (fits_enumeration _ _ _ _ (c.args.self.now.all_rest _ c.requires) c.in-Enumeration.names c.in-Enumeration.is, ← c.as_slice.ensures) c.name_fits.ensures

pub fits_at-returns-in-Option : goal.fits_at-returns-in-Option
fits_at-returns-in-Option t c = rw (fits_option _ _ _ _ (c.args.self.now.all_rest _ c.requires) c.in-Option.inner c.in-Option.is, ← c.get.ensures) c.option_fits.ensures

pub fits_at-returns-in-List : goal.fits_at-returns-in-List
fits_at-returns-in-List t c = rw (fits_list _ _ _ _ (c.args.self.now.all_rest _ c.requires) c.in-List.item c.in-List.min c.in-List.max c.in-List.is, ← c.get-in-List.ensures) c.items_fit.ensures

pub fits_at-returns-in-Map : goal.fits_at-returns-in-Map
fits_at-returns-in-Map t c = rw (fits_map _ _ _ _ (c.args.self.now.all_rest _ c.requires) c.in-Map.value c.in-Map.is, ← c.get-in-Map.ensures) c.entries_fit.ensures

pub fits_at-returns-in-Struct : goal.fits_at-returns-in-Struct
fits_at-returns-in-Struct t c = rw (fits_struct _ _ _ _ (c.args.self.now.all_rest _ c.requires) c.in-Struct.fields c.in-Struct.deny_unknown c.in-Struct.is, ← c.as_slice-in-Struct.ensures) c.fields_fit.ensures

pub fits_at-returns-in-External : goal.fits_at-returns-in-External
fits_at-returns-in-External t c = rw (fits_external _ _ _ _ (c.args.self.now.all_rest _ c.requires) c.in-External.variants c.in-External.is, ← c.as_slice-in-External.ensures) c.external_fits.ensures

pub fits_at-returns-in-Tagged : goal.fits_at-returns-in-Tagged
fits_at-returns-in-Tagged t c = rw (fits_tagged _ _ _ _ (c.args.self.now.all_rest _ c.requires) _ c.in-Tagged.variants c.in-Tagged.is, ← c.as_slice-in-Tagged.ensures) c.tagged_fits.ensures

pub fits_at-returns-in-Untagged : goal.fits_at-returns-in-Untagged
fits_at-returns-in-Untagged t c = rw (fits_untagged _ _ _ _ (c.args.self.now.all_rest _ c.requires) c.in-Untagged.alternatives c.in-Untagged.is, ← c.as_slice-in-Untagged.ensures) c.choice_fits.ensures

pub fits_at-returns-in-Some : goal.fits_at-returns-in-Some
fits_at-returns-in-Some t c = rw (fits_ref _ _ _ _ (c.args.self.now.all_rest _ c.requires) c.in-Ref.name (Some c.in-Some.definition.now) c.in-Ref.is (sym c.in-Some.ensures)) c.fits_at.ensures

pub fits_at-returns-in-None : goal.fits_at-returns-in-None
fits_at-returns-in-None t c = rw (fits_ref _ _ _ _ (c.args.self.now.all_rest _ c.requires) c.in-Ref.name None c.in-Ref.is (sym c.in-None.ensures)) refl

pub option_fits-fits_at-requires : goal.option_fits-fits_at-requires
option_fits-fits_at-requires t c =
    let size : size-Tree c.args.tree.now ≡ suc (size-Tree c.in-Some.tree) = ap size-Tree c.in-Some.is ∙ size_some c.in-Some.tree in
    let less = at-lt-alone c.args.self.now.table.now c.args.self.now.whole.now (size-Tree c.in-Some.tree) (size-Tree c.args.tree.now) c.args.inner.now (omega arith) in
    rw c.get.ensures (omega (arith, c.decreases, less), c.requires)

pub items_fit-each_fits-requires : goal.items_fit-each_fits-requires
items_fit-each_fits-requires t c =
    let size : size-Tree c.args.tree.now ≡ suc (most size-Tree c.in-List.trees) = ap size-Tree c.in-List.is ∙ size_items c.in-List.trees in
    rw (c.as_slice.ensures, ← size) (omega (arith, c.decreases), c.requires)

pub each_fits-fits_at-requires : goal.each_fits-fits_at-requires
each_fits-fits_at-requires t c =
    let less = at-lt-alone c.args.self.now.table.now c.args.self.now.whole.now (size-Tree c.tree-item.result) (suc (most size-Tree c.args.trees.now)) c.args.item.now (tree_smaller c.args.trees.now c.loop-tree.tree-index c.tree-item.result (omega arith) c.tree-item.is) in
    (omega (arith, c.decreases, less), c.requires)

pub entries_fit-values_fit-requires : goal.entries_fit-values_fit-requires
entries_fit-values_fit-requires t c =
    let size : size-Tree c.args.tree.now ≡ suc (most size-Pair c.in-Map.pairs) = ap size-Tree c.in-Map.is ∙ size_entries c.in-Map.pairs in
    rw (c.as_slice-then-keys_ascend.ensures, ← size) (omega (arith, c.decreases), c.requires)

pub values_fit-fits_at-requires : goal.values_fit-fits_at-requires
values_fit-fits_at-requires t c =
    let smaller = value_smaller c.args.pairs.now c.loop-pair.pair-index c.pair-item.result (omega arith) c.pair-item.is in
    let less = at-lt-alone c.args.self.now.table.now c.args.self.now.whole.now (size-Tree c.pair-item.result.value) (suc (most size-Pair c.args.pairs.now)) c.args.value.now (omega (arith, smaller)) in
    (omega (arith, c.decreases, less), c.requires)

pub fields_fit-returns-else-fields-len : goal.fields_fit-returns-else-fields-len
fields_fit-returns-else-fields-len t c =
    let differ : length c.args.fields.now ≡ length c.in-Fields.trees → ⊥ = λ e. c.if-fields-len.false (e ∙ sym c.len.ensures) in
    let none : parts_fit (fits_under c.args.self.now.table.now c.args.self.now.whole.now) c.args.fields.now (out-Tree c.args.tree.now) ≡ false =
    ap (parts_fit (fits_under c.args.self.now.table.now c.args.self.now.whole.now) c.args.fields.now) (ap out-Tree c.in-Fields.is ∙ tree.outs-Fields c.in-Fields.trees)
    ∙ lengths_differ (fits_under c.args.self.now.table.now c.args.self.now.whole.now) c.args.fields.now c.in-Fields.trees differ in
    rw none (unequal (length c.args.fields.now) c.len.result c.if-fields-len.false)

pub parts_fit-field_fits-requires : goal.parts_fit-field_fits-requires
parts_fit-field_fits-requires t c =
    let turn = zip_turn c.args.fields.now c.args.trees.now c.loop-field.yielded c.into_iter-field-iterator.result c.loop-field.field-iterator c.next.new.self c.next.result (search rules) (search rules) c.loop-field.yielded_by (c.in-Some.field, c.in-Some.tree) c.in-Some.is c.next.ensures.steps in
    let smaller = tree_smaller c.args.trees.now (length c.loop-field.yielded) c.in-Some.tree.now turn.1 (turn.3 c.in-Some.tree.now) in
    let less = any-lt-alone c.args.self.now.table.now c.args.self.now.whole.now (size-Tree c.in-Some.tree.now) (suc (most size-Tree c.args.trees.now)) smaller in
    (omega (arith, c.decreases, less), c.requires.parts c.in-Some.field.now (length c.loop-field.yielded, turn.0, sym (turn.2 c.in-Some.field.now)))

pub field_fits-fits_at-requires : goal.field_fits-fits_at-requires
field_fits-fits_at-requires t c =
    let less = at-lt-any c.args.self.now.table.now c.args.self.now.whole.now (size-Tree c.args.tree.now) c.args.field.now.desc in
    (omega (arith, c.decreases, less), c.requires)

pub field_fits-option_fits-requires : goal.field_fits-option_fits-requires
field_fits-option_fits-requires t c =
    let less = alone-lt-any c.args.self.now.table.now c.args.self.now.whole.now (size-Tree c.args.tree.now) in
    (omega (arith, c.decreases, less), c.requires)

pub field_fits-returns-in-Skipped : goal.field_fits-returns-in-Skipped
field_fits-returns-in-Skipped t c =
    rw (skipped_desc c.args.field.now c.in-Skipped.is, skipped_row c.args.self.now.table.now c.args.self.now.whole.now c.args.tree.now c.args.field.now.desc) c.option_fits.ensures

pub external_fits-payload_fits-requires : goal.external_fits-payload_fits-requires
external_fits-payload_fits-requires t c =
    let size : size-Tree c.args.tree.now ≡ suc (size-Tree c.in-Variant.tree) = ap size-Tree c.in-Variant.is ∙ size_choice c.in-Variant.place c.in-Variant.tree in
    let less = any-lt-alone c.args.self.now.table.now c.args.self.now.whole.now (size-Tree c.in-Variant.tree) (size-Tree c.args.tree.now) (omega arith) in
    rw c.get-in-Some.ensures (omega (arith, c.decreases, less), c.requires c.in-Some.variant.now (c.in-Variant.place, below_true _ _ c.in-Some.ensures.lookup.0, sym c.in-Some.ensures.lookup.1))

pub external_fits-returns-in-Some : goal.external_fits-returns-in-Some
external_fits-returns-in-Some t c =
    rw (given_row (fits_under c.args.self.now.table.now c.args.self.now.whole.now) payload_of c.args.variants.now c.args.tree.now c.in-Variant.place c.in-Variant.tree (Some c.in-Some.variant.now) c.in-Variant.is (slice_get_read c.args.variants.now _ c.in-Variant.place c.in-Some.variant.now refl (below_true _ _ c.in-Some.ensures.lookup.0) c.in-Some.ensures.lookup.1), ← c.get-in-Some.ensures) c.payload_fits.ensures

pub external_fits-returns-in-None : goal.external_fits-returns-in-None
external_fits-returns-in-None t c =
    rw (given_row (fits_under c.args.self.now.table.now c.args.self.now.whole.now) payload_of c.args.variants.now c.args.tree.now c.in-Variant.place c.in-Variant.tree None c.in-Variant.is (slice_get_past c.args.variants.now c.in-Variant.place (below_false _ _ c.in-None.ensures.lookup.0))) refl

pub payload_fits-fits_at-requires : goal.payload_fits-fits_at-requires
payload_fits-fits_at-requires t c =
    let less = at-lt-any c.args.self.now.table.now c.args.self.now.whole.now (size-Tree c.args.tree.now) c.in-Some.payload in
    (omega (arith, c.decreases, less), subst (λ o. IfSome o (IsPart c.args.self.now.table.now c.args.self.now.whole.now)) c.in-Some.is c.requires)

pub payload_fits-returns-in-None : goal.payload_fits-returns-in-None
payload_fits-returns-in-None t c = rw (c.in-None.is, nought_row c.args.self.now.table.now c.args.self.now.whole.now c.args.tree.now) c.nought_fits.ensures

pub tagged_fits-fields_fit-requires : goal.tagged_fits-fields_fit-requires
tagged_fits-fields_fit-requires t c =
    let size : size-Tree c.args.tree.now ≡ suc (size-Tree c.in-Variant.tree) = ap size-Tree c.in-Variant.is ∙ size_choice c.in-Variant.place c.in-Variant.tree in
    let less = any-lt-alone c.args.self.now.table.now c.args.self.now.whole.now (size-Tree c.in-Variant.tree) (size-Tree c.args.tree.now) (omega arith) in
    let least = alone-lt-any c.args.self.now.table.now c.args.self.now.whole.now (size-Tree c.in-Variant.tree) in
    rw (c.get-in-Some.ensures, c.as_slice.ensures)
    (omega (arith, c.decreases, less, least), c.requires c.in-Some.variant.now (c.in-Variant.place, below_true _ _ c.in-Some.ensures.lookup.0, sym c.in-Some.ensures.lookup.1))

pub tagged_fits-returns-in-Some : goal.tagged_fits-returns-in-Some
tagged_fits-returns-in-Some t c =
    rw (given_row (fits_under c.args.self.now.table.now c.args.self.now.whole.now) struct_of c.args.variants.now c.args.tree.now c.in-Variant.place c.in-Variant.tree (Some c.in-Some.variant.now) c.in-Variant.is (slice_get_read c.args.variants.now _ c.in-Variant.place c.in-Some.variant.now refl (below_true _ _ c.in-Some.ensures.lookup.0) c.in-Some.ensures.lookup.1), struct_row c.args.self.now.table.now c.args.self.now.whole.now c.in-Variant.tree (tagged_fields c.in-Some.variant.now) false, ← c.as_slice.ensures, ← c.get-in-Some.ensures) c.fields_fit.ensures

pub tagged_fits-returns-in-None : goal.tagged_fits-returns-in-None
tagged_fits-returns-in-None t c =
    rw (given_row (fits_under c.args.self.now.table.now c.args.self.now.whole.now) struct_of c.args.variants.now c.args.tree.now c.in-Variant.place c.in-Variant.tree None c.in-Variant.is (slice_get_past c.args.variants.now c.in-Variant.place (below_false _ _ c.in-None.ensures.lookup.0))) refl

pub choice_fits-fits_at-requires : goal.choice_fits-fits_at-requires
choice_fits-fits_at-requires t c =
    let size : size-Tree c.args.tree.now ≡ suc (size-Tree c.in-Variant.tree) = ap size-Tree c.in-Variant.is ∙ size_choice c.in-Variant.place c.in-Variant.tree in
    let less = at-lt-alone c.args.self.now.table.now c.args.self.now.whole.now (size-Tree c.in-Variant.tree) (size-Tree c.args.tree.now) c.in-Some.alternative.now (omega arith) in
    rw c.get-in-Some.ensures (omega (arith, c.decreases, less), c.requires c.in-Some.alternative.now (c.in-Variant.place, below_true _ _ c.in-Some.ensures.lookup.0, sym c.in-Some.ensures.lookup.1))

pub choice_fits-returns-in-Some : goal.choice_fits-returns-in-Some
choice_fits-returns-in-Some t c =
    rw (choice_row (fits_under c.args.self.now.table.now c.args.self.now.whole.now) c.args.alternatives.now c.args.tree.now c.in-Variant.place c.in-Variant.tree (Some c.in-Some.alternative.now) c.in-Variant.is (slice_get_read c.args.alternatives.now _ c.in-Variant.place c.in-Some.alternative.now refl (below_true _ _ c.in-Some.ensures.lookup.0) c.in-Some.ensures.lookup.1), ← c.get-in-Some.ensures) c.fits_at.ensures

pub choice_fits-returns-in-None : goal.choice_fits-returns-in-None
choice_fits-returns-in-None t c =
    rw (choice_row (fits_under c.args.self.now.table.now c.args.self.now.whole.now) c.args.alternatives.now c.args.tree.now c.in-Variant.place c.in-Variant.tree None c.in-Variant.is (slice_get_past c.args.alternatives.now c.in-Variant.place (below_false _ _ c.in-None.ensures.lookup.0))) refl
