use Rattle.std.proofs.Common.{ℕ, suc, true, false, ◌≡◌, ◌+◌, List, map, refl, sym, ◌∙◌, ap, arith, length, drop, Bor, ◌<◌, ◌≤◌, Option, Some, None, subst}
use Rattle.std.proofs.lemmas.List.{length-map}
use Rattle.std.proofs.lemmas.Result.{err_from_is_err_and}
use Rattle.std.specs.Prelude.{IfSome}
use Rattle.std.specs.declared.result.Result.{Result}
use denote.Param.Weighed.{most}
use Rattle.schema_values.specs.declared.json_value.Json.{Json, out-Json, size-Json}
use Rattle.schema_values.specs.declared.json_value.Json.TheVariants as json
use Rattle.schema_values.specs.declared.json_value.Member.{Member, size-Member}
use Rattle.descriptors.specs.declared.desc.Desc.{Desc}
use Rattle.descriptors.specs.declared.desc.Field.{Field}
use Rattle.descriptors.specs.declared.desc.TaggedVariant.{TaggedVariant}
use Rattle.typed_values.specs.declared.fault.FaultKind.TheVariants.{NotListed}
use Rattle.typed_values.specs.declared.fault.Place.TheVariants.{Name}
use Rattle.descriptors.specs.declared.tree.Pair.{Pair}
use Rattle.descriptors.specs.declared.tree.Tree.{Tree, List as Items, Map as Entries, Fields as Parts}
use Rattle.typed_values.specs.Answer.{Tells}
use Rattle.typed_values.specs.Bounds.{is_length_within}
use Rattle.descriptors.specs.Definitions.{tagged_fields, tagged_name, variant_name}
use Rattle.typed_values.specs.Denotes.{Told, below, chosen, told, all_told, as_tree, first_told, member_name, refused, where_found}
use Rattle.typed_values.specs.Faults.{Trouble}
use Rattle.schema_values.specs.Order.{sorted_by}
use Rattle.typed_values.specs.Parts.{IsPart}
use Rattle.typed_values.specs.Rows.{told_item, told_entry, told_field, told_fields, told_struct}
use Rattle.typed_values.proofs.Arms.{row_any, row_never, row_nought, row_bool, row_char, row_int, row_text, row_enumeration, row_option, row_list, row_map, row_struct, row_external, row_tagged, row_untagged, row_ref, definition_is_part, payload_at, list_at, map_at, at_tag_text}
use Rattle.typed_values.proofs.Inside.{part_of_option, part_of_list, part_of_map, parts_of_untagged, fields_of_struct, payloads_of_external, variants_of_tagged, few_names, few_variants, few_tagged, few_alternatives}
use Rattle.typed_values.proofs.Listed.{place_below, found_inside}
use Rattle.typed_values.proofs.Loops.{after, all_step, all_err, all_end, items_within, next_first, pushed, not_pushed, unsettled}
use Rattle.typed_values.proofs.JsonSizes.{list_size, item_smaller, member_greater, member_at_most, entry_at_most, value_smaller, members-lt-alone}
use Rattle.typed_values.proofs.Measure.{option-lt, ref-lt, choice-lt-at, at-lt-choice, alone-lt-at, at-lt-alone, alone-le-alone, size_alone}
use Rattle.typed_values.proofs.Places.{taken_behind}
use Rattle.typed_values.proofs.scope.Decoder.+decode.Goals as goal

abbrev lent : List (Bor Member) → List Member
lent refs = map (λ member. member.now) refs

pub decode_at-decode_option-requires : goal.decode_at-decode_option-requires
decode_at-decode_option-requires t c =
    let d = c.args.desc.now in
    let less = option-lt c.args.self.now.table.now c.args.self.now.whole.now (size-Json c.args.json.now) d (c.args.self.now.all_rest d c.requires) c.in-Option.inner c.in-Option.is in
    let part = part_of_option c.requires c.in-Option.inner c.in-Option.is in
    rw c.get.ensures (omega (arith, c.decreases, less), part)

pub decode_at-returns-in-Option : goal.decode_at-returns-in-Option
decode_at-returns-in-Option t c = rw (row_option _ _ c.args.json.now c.args.desc.now (c.args.self.now.all_rest _ c.requires) c.in-Option.inner c.in-Option.is, ← c.get.ensures) c.decode_option.ensures

pub decode_at-returns-in-Any : goal.decode_at-returns-in-Any
decode_at-returns-in-Any t c = rw (row_any _ _ c.args.json.now c.args.desc.now (c.args.self.now.all_rest _ c.requires) c.in-Any.is) c.decode_any.ensures

pub decode_at-returns-in-Never : goal.decode_at-returns-in-Never
decode_at-returns-in-Never t c = rw (row_never _ _ c.args.json.now c.args.desc.now (c.args.self.now.all_rest _ c.requires) c.in-Never.is) c.refused.ensures.told

pub decode_at-returns-in-Null : goal.decode_at-returns-in-Null
decode_at-returns-in-Null t c = rw (row_nought _ _ c.args.json.now c.args.desc.now (c.args.self.now.all_rest _ c.requires) c.in-Null.is) c.decode_null.ensures.told

pub decode_at-returns-in-Char : goal.decode_at-returns-in-Char
decode_at-returns-in-Char t c = rw (row_char _ _ c.args.json.now c.args.desc.now (c.args.self.now.all_rest _ c.requires) c.in-Char.is) c.decode_char.ensures.told

pub decode_at-decode_name-requires : goal.decode_at-decode_name-requires
decode_at-decode_name-requires t c = rw c.as_slice.ensures (record { few = few_names c.requires c.args.self.now.ranged c.in-Enumeration.names c.in-Enumeration.is })

pub decode_at-returns-in-Enumeration : goal.decode_at-returns-in-Enumeration
decode_at-returns-in-Enumeration t c =
    rw (row_enumeration _ _ c.args.json.now c.args.desc.now (c.args.self.now.all_rest _ c.requires) c.in-Enumeration.names c.in-Enumeration.is, ← c.as_slice.ensures) c.decode_name.ensures.told

pub decode_at-returns-in-Bool : goal.decode_at-returns-in-Bool
decode_at-returns-in-Bool t c = rw (row_bool _ _ c.args.json.now c.args.desc.now (c.args.self.now.all_rest _ c.requires) c.in-Bool.is) c.decode_bool.ensures.told

pub decode_at-returns-in-Int : goal.decode_at-returns-in-Int
decode_at-returns-in-Int t c = rw (row_int _ _ c.args.json.now c.args.desc.now (c.args.self.now.all_rest _ c.requires) c.in-Int.kind c.in-Int.min c.in-Int.max c.in-Int.is) c.decode_int.ensures.told

pub decode_at-returns-in-Text : goal.decode_at-returns-in-Text
decode_at-returns-in-Text t c = rw (row_text _ _ c.args.json.now c.args.desc.now (c.args.self.now.all_rest _ c.requires) c.in-Text.min c.in-Text.max _ c.in-Text.is) c.decode_text.ensures.told

pub decode_at-decode_list-requires : goal.decode_at-decode_list-requires
decode_at-decode_list-requires t c =
    let less = alone-lt-at c.args.self.now.table.now c.args.self.now.whole.now (size-Json c.args.json.now) c.args.desc.now in
    (omega (arith, c.decreases, less), rw c.get-in-List.ensures (part_of_list c.requires c.in-List.item c.in-List.min c.in-List.max c.in-List.is))

pub decode_at-returns-in-List : goal.decode_at-returns-in-List
decode_at-returns-in-List t c =
    rw (row_list _ _ c.args.json.now c.args.desc.now (c.args.self.now.all_rest _ c.requires) c.in-List.item c.in-List.min c.in-List.max c.in-List.is, ← c.get-in-List.ensures) c.decode_list.ensures

pub decode_at-decode_map-requires : goal.decode_at-decode_map-requires
decode_at-decode_map-requires t c =
    let less = alone-lt-at c.args.self.now.table.now c.args.self.now.whole.now (size-Json c.args.json.now) c.args.desc.now in
    (omega (arith, c.decreases, less), rw c.get-in-Map.ensures (part_of_map c.requires c.in-Map.value c.in-Map.is))

pub decode_at-returns-in-Map : goal.decode_at-returns-in-Map
decode_at-returns-in-Map t c = rw (row_map _ _ c.args.json.now c.args.desc.now (c.args.self.now.all_rest _ c.requires) c.in-Map.value c.in-Map.is, ← c.get-in-Map.ensures) c.decode_map.ensures

pub decode_at-decode_struct-requires : goal.decode_at-decode_struct-requires
decode_at-decode_struct-requires t c =
    let less = alone-lt-at c.args.self.now.table.now c.args.self.now.whole.now (size-Json c.args.json.now) c.args.desc.now in
    (omega (arith, c.decreases, less), rw c.as_slice-in-Struct.ensures (fields_of_struct c.requires c.in-Struct.fields c.in-Struct.deny_unknown c.in-Struct.is))

pub decode_at-returns-in-Struct : goal.decode_at-returns-in-Struct
decode_at-returns-in-Struct t c =
    rw (row_struct _ _ c.args.json.now c.args.desc.now (c.args.self.now.all_rest _ c.requires) c.in-Struct.fields c.in-Struct.deny_unknown c.in-Struct.is, ← c.as_slice-in-Struct.ensures) c.decode_struct.ensures

pub decode_at-decode_external-requires : goal.decode_at-decode_external-requires
decode_at-decode_external-requires t c =
    let less = alone-lt-at c.args.self.now.table.now c.args.self.now.whole.now (size-Json c.args.json.now) c.args.desc.now in
    let parts = payloads_of_external c.requires c.in-External.variants c.in-External.is in
    let few = few_variants c.requires c.args.self.now.ranged c.in-External.variants c.in-External.is in
    rw c.as_slice-in-External.ensures (omega (arith, c.decreases, less), (parts, few))

pub decode_at-returns-in-External : goal.decode_at-returns-in-External
decode_at-returns-in-External t c =
    rw (row_external _ _ c.args.json.now c.args.desc.now (c.args.self.now.all_rest _ c.requires) c.in-External.variants c.in-External.is, ← c.as_slice-in-External.ensures) c.decode_external.ensures

pub decode_at-decode_tagged-requires : goal.decode_at-decode_tagged-requires
decode_at-decode_tagged-requires t c =
    let less = alone-lt-at c.args.self.now.table.now c.args.self.now.whole.now (size-Json c.args.json.now) c.args.desc.now in
    let parts = variants_of_tagged c.requires c.in-Tagged.tag c.in-Tagged.variants c.in-Tagged.is in
    let few = few_tagged c.requires c.args.self.now.ranged c.in-Tagged.tag c.in-Tagged.variants c.in-Tagged.is in
    rw c.as_slice-in-Tagged.ensures (omega (arith, c.decreases, less), (parts, few))

pub decode_at-returns-in-Tagged : goal.decode_at-returns-in-Tagged
decode_at-returns-in-Tagged t c =
    rw (row_tagged _ _ c.args.json.now c.args.desc.now (c.args.self.now.all_rest _ c.requires) c.in-Tagged.tag c.in-Tagged.variants c.in-Tagged.is, ← c.as_slice-in-Tagged.ensures) c.decode_tagged.ensures

pub decode_at-decode_untagged-requires : goal.decode_at-decode_untagged-requires
decode_at-decode_untagged-requires t c =
    let d = c.args.desc.now in
    let less = choice-lt-at c.args.self.now.table.now c.args.self.now.whole.now (size-Json c.args.json.now) d (c.args.self.now.all_rest d c.requires) c.in-Untagged.alternatives c.in-Untagged.is in
    let parts = parts_of_untagged c.requires c.in-Untagged.alternatives c.in-Untagged.is in
    let few = few_alternatives c.requires c.args.self.now.ranged c.in-Untagged.alternatives c.in-Untagged.is in
    rw c.as_slice-in-Untagged.ensures (omega (arith, c.decreases, less), (parts, few))

pub decode_at-returns-in-Untagged : goal.decode_at-returns-in-Untagged
decode_at-returns-in-Untagged t c =
    rw (row_untagged _ _ c.args.json.now c.args.desc.now (c.args.self.now.all_rest _ c.requires) c.in-Untagged.alternatives c.in-Untagged.is, ← c.as_slice-in-Untagged.ensures) c.decode_untagged.ensures

pub decode_at-decode_at-requires : goal.decode_at-decode_at-requires
decode_at-decode_at-requires t c =
    let d = c.args.desc.now in
    let found = sym c.in-Some.ensures in
    let less = ref-lt c.args.self.now.table.now c.args.self.now.whole.now (size-Json c.args.json.now) d (c.args.self.now.all_rest d c.requires) c.in-Ref.name c.in-Some.definition.now c.in-Ref.is found in
    (omega (arith, c.decreases, less), definition_is_part _ _ c.in-Ref.name c.in-Some.definition.now found)

pub decode_at-returns-in-Some : goal.decode_at-returns-in-Some
decode_at-returns-in-Some t c =
    rw (row_ref _ _ c.args.json.now c.args.desc.now (c.args.self.now.all_rest _ c.requires) c.in-Ref.name (Some c.in-Some.definition.now) c.in-Ref.is (sym c.in-Some.ensures)) c.decode_at.ensures

pub decode_at-returns-in-None : goal.decode_at-returns-in-None
decode_at-returns-in-None t c =
    rw (row_ref _ _ c.args.json.now c.args.desc.now (c.args.self.now.all_rest _ c.requires) c.in-Ref.name None c.in-Ref.is (sym c.in-None.ensures)) c.refused-in-None.ensures.told

pub decode_struct-decode_fields-requires : goal.decode_struct-decode_fields-requires
decode_struct-decode_fields-requires t c =
    let less = members-lt-alone c.args.self.now.table.now c.args.self.now.whole.now c.args.json.now c.in-Object.members c.in-Object.is in
    rw (c.in_ok-members.ensures, c.as_slice.ensures) (omega (arith, c.decreases, less), c.requires)

pub decode_map-decode_entry-requires : goal.decode_map-decode_entry-requires
decode_map-decode_entry-requires t c =
    let m = c.member-item.result.now in
    let ms = c.as_slice-members.result.now in
    let same = ap lent c.deref-member-items.ensures.value ∙ c.in_ok-ordered.ensures in
    let at = taken_behind (λ member. member.now) c.deref-member-items.result.now (sorted_by member_name ms) same c.loop-member.member-index c.member-item.result (omega arith) c.member-item.is in
    let inner = members-lt-alone c.args.self.now.table.now c.args.self.now.whole.now c.args.json.now c.in-Object.object c.in-Object.is in
    let here = subst (λ (ns : List Member). size-Member m ≤ most size-Member ns) c.as_slice-members.ensures (entry_at_most ms c.loop-member.member-index m at.0 at.1) in
    let less = alone-le-alone c.args.self.now.table.now c.args.self.now.whole.now (size-Member m) (most size-Member c.in-Object.object) here in
    (omega (arith, c.decreases, inner, less), c.requires)

pub decode_map-returns-in_err-push : goal.decode_map-returns-in_err-push
decode_map-returns-in_err-push t c =
    let ms = lent c.deref-member-items.result.now in
    let f : ℕ → Member → Result Pair Trouble = λ i m. told_entry c.args.self.now.table.now c.args.self.now.whole.now c.args.value.now m in
    let at = taken_behind (λ member. member.now) c.deref-member-items.result.now ms refl c.loop-member.member-index c.member-item.result (omega arith) c.member-item.is in
    let same : ms ≡ sorted_by member_name c.as_slice-members.result.now = ap lent c.deref-member-items.ensures.value ∙ c.in_ok-ordered.ensures in
    let row = map_at c.args.self.now.table.now c.args.self.now.whole.now c.args.value.now c.args.json.now c.in-Object.object c.as_slice-members.result.now c.in-Object.is c.as_slice-members.ensures ∙ ap (λ (xs : List Member). as_tree Entries (all_told f 0 xs)) (sym same) in
    let bad = not_pushed _ c.in_err-push.field-0.0 _ _ _ c.in_err-push.ensures c.decode_entry.ensures in
    let p = err_from_is_err_and c.from_residual-in_err-push.result c.from_residual-in_err-push.ensures.1 in
    rw (row, p.1, p.2) (all_err f (all_told f 0 ms) ms c.loop-member.member-index c.loop-member.pairs c.loop-member.invariant (as_tree Entries) (λ k. refl) c.member-item.result.now c.in_err-push.field-0.0 at.0 at.1 bad)

pub decode_map-loop-member-preserved : goal.decode_map-loop-member-preserved
decode_map-loop-member-preserved t c =
    let ms = lent c.deref-member-items.result.now in
    let f : ℕ → Member → Result Pair Trouble = λ i m. told_entry c.args.self.now.table.now c.args.self.now.whole.now c.args.value.now m in
    let at = taken_behind (λ member. member.now) c.deref-member-items.result.now ms refl c.loop-member.member-index c.member-item.result (omega arith) c.member-item.is in
    let put = pushed _ _ _ _ _ c.in_ok-push.ensures c.decode_entry.ensures in
    all_step f (all_told f 0 ms) ms c.loop-member.member-index c.loop-member.pairs c.loop-member.invariant c.member-item.result.now put.0 at.0 at.1 put.1
    ∙ ap (λ (ps : List Pair). after ps (all_told f (c.loop-member.member-index + 1) (drop (c.loop-member.member-index + 1) ms))) (sym put.2)

pub decode_map-returns : goal.decode_map-returns
decode_map-returns t c =
    let ms = lent c.deref-member-items.result.now in
    let f : ℕ → Member → Result Pair Trouble = λ i m. told_entry c.args.self.now.table.now c.args.self.now.whole.now c.args.value.now m in
    let same : ms ≡ sorted_by member_name c.as_slice-members.result.now = ap lent c.deref-member-items.ensures.value ∙ c.in_ok-ordered.ensures in
    let row = map_at c.args.self.now.table.now c.args.self.now.whole.now c.args.value.now c.args.json.now c.in-Object.object c.as_slice-members.result.now c.in-Object.is c.as_slice-members.ensures ∙ ap (λ (xs : List Member). as_tree Entries (all_told f 0 xs)) (sym same) in
    let n : length ms ≡ length c.deref-member-items.result.now = length-map c.deref-member-items.result.now (λ member. member.now) in
    row ∙ ap (as_tree Entries) (all_end f (all_told f 0 ms) ms c.loop-member.member-index c.loop-member.pairs c.loop-member.invariant (omega (arith, n)))

pub decode_entry-decode_at-requires : goal.decode_entry-decode_at-requires
decode_entry-decode_at-requires t c =
    let less = at-lt-alone c.args.self.now.table.now c.args.self.now.whole.now (size-Json c.args.member.now.value) (size-Member c.args.member.now) c.args.value.now (member_greater c.args.member.now) in
    (omega (arith, c.decreases, less), c.requires)

pub decode_entry-returns : goal.decode_entry-returns
decode_entry-returns t c =
    rw c.in_ok-key.ensures at (c.pair.ensures (told c.args.self.now.table.now c.args.self.now.whole.now c.args.member.now.value c.args.value.now) c.decode_at.ensures)

pub decode_field-decode_at-requires : goal.decode_field-decode_at-requires
decode_field-decode_at-requires t c =
    let less = at-lt-alone c.args.self.now.table.now c.args.self.now.whole.now (size-Json c.in-Some.json.now) (most size-Member c.args.members.now.items.now) c.args.field.now.desc (value_smaller c.args.members.now.items.now c.args.field.now.name c.in-Some.json.now (sym c.in-Some.ensures)) in
    (omega (arith, c.decreases, less), c.requires)

pub decode_fields-decode_field-requires : goal.decode_fields-decode_field-requires
decode_fields-decode_field-requires t c =
    (omega (arith, c.decreases), c.requires c.field-item.result (c.loop-field.field-index, omega arith, sym c.field-item.is))

pub decode_fields-returns-in_err-push : goal.decode_fields-returns-in_err-push
decode_fields-returns-in_err-push t c =
    let fs = c.args.fields.now in
    let f : ℕ → Field → Told = λ i x. told_field c.args.self.now.table.now c.args.self.now.whole.now c.args.members.now.items.now x in
    let bad = not_pushed _ c.in_err-push.field-0.0 _ _ _ c.in_err-push.ensures c.decode_field.ensures in
    let p = err_from_is_err_and c.from_residual-in_err-push.result c.from_residual-in_err-push.ensures.1 in
    rw (p.1, p.2) (all_err f (all_told f 0 fs) fs c.loop-field.field-index c.loop-field.trees c.loop-field.invariant (as_tree Parts) (λ k. refl) c.field-item.result c.in_err-push.field-0.0 (omega arith) c.field-item.is bad)

pub decode_fields-loop-field-preserved : goal.decode_fields-loop-field-preserved
decode_fields-loop-field-preserved t c =
    let fs = c.args.fields.now in
    let f : ℕ → Field → Told = λ i x. told_field c.args.self.now.table.now c.args.self.now.whole.now c.args.members.now.items.now x in
    let put = pushed _ _ _ _ _ c.in_ok-push.ensures c.decode_field.ensures in
    all_step f (all_told f 0 fs) fs c.loop-field.field-index c.loop-field.trees c.loop-field.invariant c.field-item.result put.0 (omega arith) c.field-item.is put.1
    ∙ ap (λ (ts : List Tree). after ts (all_told f (c.loop-field.field-index + 1) (drop (c.loop-field.field-index + 1) fs))) (sym put.2)

pub decode_fields-returns : goal.decode_fields-returns
decode_fields-returns t c =
    let fs = c.args.fields.now in
    let f : ℕ → Field → Told = λ i x. told_field c.args.self.now.table.now c.args.self.now.whole.now c.args.members.now.items.now x in
    ap (as_tree Parts) (all_end f (all_told f 0 fs) fs c.loop-field.field-index c.loop-field.trees c.loop-field.invariant (omega arith))

pub decode_list-decode_at-requires : goal.decode_list-decode_at-requires
decode_list-decode_at-requires t c =
    let js = c.as_slice-items.result.now in
    let size : size-Json c.args.json.now ≡ suc (most size-Json js) = list_size c.args.json.now c.in-List.list js c.in-List.is c.as_slice-items.ensures in
    let smaller = item_smaller js c.loop-i.i c.index-items-i.result (omega arith) c.index-items-i.is in
    let less = at-lt-alone c.args.self.now.table.now c.args.self.now.whole.now (size-Json c.index-items-i.result) (size-Json c.args.json.now) c.args.item.now (omega (arith, size, smaller)) in
    (omega (arith, c.decreases, less), c.requires)

pub decode_list-returns-in_err-push : goal.decode_list-returns-in_err-push
decode_list-returns-in_err-push t c =
    let js = c.as_slice-items.result.now in
    let f : ℕ → Json → Told = told_item c.args.self.now.table.now c.args.self.now.whole.now c.args.item.now in
    let within : is_length_within c.args.min c.args.max (length js) ≡ true = cc in
    let row = list_at c.args.self.now.table.now c.args.self.now.whole.now c.args.item.now c.args.min c.args.max c.args.json.now c.in-List.list js c.in-List.is c.as_slice-items.ensures ∙ items_within f c.args.min c.args.max js within in
    let item = c.item_at.ensures (told c.args.self.now.table.now c.args.self.now.whole.now c.index-items-i.result c.args.item.now) c.decode_at.ensures in
    let bad = not_pushed _ c.in_err-push.field-0.0 _ _ _ c.in_err-push.ensures item in
    let p = err_from_is_err_and c.from_residual.result c.from_residual.ensures.1 in
    rw (row, p.1, p.2) (all_err f (all_told f 0 js) js c.loop-i.i c.loop-i.trees c.loop-i.invariant (as_tree Items) (λ k. refl) c.index-items-i.result c.in_err-push.field-0.0 (omega arith) c.index-items-i.is bad)

pub decode_list-loop-i-preserved : goal.decode_list-loop-i-preserved
decode_list-loop-i-preserved t c =
    let js = c.as_slice-items.result.now in
    let f : ℕ → Json → Told = told_item c.args.self.now.table.now c.args.self.now.whole.now c.args.item.now in
    let item = c.item_at.ensures (told c.args.self.now.table.now c.args.self.now.whole.now c.index-items-i.result c.args.item.now) c.decode_at.ensures in
    let put = pushed _ _ _ _ _ c.in_ok-push.ensures item in
    all_step f (all_told f 0 js) js c.loop-i.i c.loop-i.trees c.loop-i.invariant c.index-items-i.result put.0 (omega arith) c.index-items-i.is put.1
    ∙ ap (λ (ts : List Tree). after ts (all_told f (c.loop-i.i + 1) (drop (c.loop-i.i + 1) js))) (sym put.2)

pub decode_list-returns : goal.decode_list-returns
decode_list-returns t c =
    let js = c.as_slice-items.result.now in
    let f : ℕ → Json → Told = told_item c.args.self.now.table.now c.args.self.now.whole.now c.args.item.now in
    let within : is_length_within c.args.min c.args.max (length js) ≡ true = cc in
    let row = list_at c.args.self.now.table.now c.args.self.now.whole.now c.args.item.now c.args.min c.args.max c.args.json.now c.in-List.list js c.in-List.is c.as_slice-items.ensures ∙ items_within f c.args.min c.args.max js within in
    row ∙ ap (as_tree Items) (all_end f (all_told f 0 js) js c.loop-i.i c.loop-i.trees c.loop-i.invariant (omega arith))

pub decode_untagged-decode_at-requires : goal.decode_untagged-decode_at-requires
decode_untagged-decode_at-requires t c =
    let less = at-lt-choice c.args.self.now.table.now c.args.self.now.whole.now (size-Json c.args.json.now) c.args.alternatives.now c.loop-i.i c.index-alternatives-i.result (omega arith) c.index-alternatives-i.is in
    (omega (arith, c.decreases, less), c.requires.parts c.index-alternatives-i.result (c.loop-i.i, omega arith, sym c.index-alternatives-i.is))

pub decode_untagged-returns-in-Some : goal.decode_untagged-returns-in-Some
decode_untagged-returns-in-Some t c =
    let f = told c.args.self.now.table.now c.args.self.now.whole.now c.args.json.now in
    let ds = c.args.alternatives.now in
    let d = c.index-alternatives-i.result in
    let next = next_first f (first_told 0 f ds) ds c.loop-i.i c.loop-i.invariant d (omega arith) c.index-alternatives-i.is in
    rw next (c.in-Some.ensures (f d) (first_told (c.loop-i.i + 1) f (drop (c.loop-i.i + 1) ds)) c.decode_at.ensures)

pub decode_untagged-loop-i-preserved : goal.decode_untagged-loop-i-preserved
decode_untagged-loop-i-preserved t c =
    let f = told c.args.self.now.table.now c.args.self.now.whole.now c.args.json.now in
    let ds = c.args.alternatives.now in
    let d = c.index-alternatives-i.result in
    next_first f (first_told 0 f ds) ds c.loop-i.i c.loop-i.invariant d (omega arith) c.index-alternatives-i.is
    ∙ unsettled _ c.settled.result c.in_default.not-Some (c.settled.ensures (f d) (first_told (c.loop-i.i + 1) f (drop (c.loop-i.i + 1) ds)) c.decode_at.ensures)

pub decode_external-decode_payload-requires : goal.decode_external-decode_payload-requires
decode_external-decode_payload-requires t c =
    let m = c.member-item.result in
    let inner = members-lt-alone c.args.self.now.table.now c.args.self.now.whole.now c.args.json.now c.in-Object.members c.in-Object.is in
    let here = subst (λ ms. size-Member m ≤ most size-Member ms) c.as_slice.ensures (member_at_most c.as_slice.result.now 0 m c.in-len1.len_at_least c.member-item.is) in
    let less = alone-le-alone c.args.self.now.table.now c.args.self.now.whole.now (size-Member m) (most size-Member c.in-Object.members) here in
    (omega (arith, c.decreases, inner, less), (c.requires.parts, c.requires.few))

pub decode_payload-decode_at-answer-requires : goal.decode_payload-decode_at-answer-requires
decode_payload-decode_at-answer-requires t c =
    let v = c.in-Some.chosen.now in
    let inside = found_inside variant_name c.args.variants.now c.args.member.now.name (c.in-Some.place, v) (sym c.in-Some.ensures) in
    let less = at-lt-alone c.args.self.now.table.now c.args.self.now.whole.now (size-Json c.args.member.now.value) (size-Member c.args.member.now) c.in-Some-payload.payload (member_greater c.args.member.now) in
    (omega (arith, c.decreases, less), subst (λ (o : Option Desc). IfSome o (IsPart c.args.self.now.table.now c.args.self.now.whole.now)) c.in-Some-payload.is (c.requires.parts v inside))

pub decode_payload-returns : goal.decode_payload-returns
decode_payload-returns t c =
    let inner = told c.args.self.now.table.now c.args.self.now.whole.now c.args.member.now.value in
    let of_payload = below (Name c.args.member.now.name) (inner c.in-Some-payload.payload) in
    let at = payload_at inner c.args.variants.now c.args.member.now.name c.in-Some.place c.in-Some.chosen.now c.in-Some-payload.payload (sym c.in-Some.ensures) c.in-Some-payload.is in
    let answer = c.in_variant.ensures of_payload (c.below_name.ensures (inner c.in-Some-payload.payload) c.decode_at-answer.ensures) in
    subst (λ (o : Told). Tells c.in_variant.result o) (sym at) answer

pub decode_payload-in_variant-requires : goal.decode_payload-in_variant-requires
decode_payload-in_variant-requires t c =
    let less = place_below variant_name c.args.variants.now c.args.member.now.name (c.in-Some.place, c.in-Some.chosen.now) (sym c.in-Some.ensures) in
    omega (arith, less, c.requires.few)

pub decode_tagged-decode_variant-requires : goal.decode_tagged-decode_variant-requires
decode_tagged-decode_variant-requires t c =
    let table = c.args.self.now.table.now in
    let whole = c.args.self.now.whole.now in
    let is = c.in_ok-members.ensures ∙ c.as_slice.ensures in
    let less = subst (λ (ms : List Member). suc (suc (size_alone table whole (most size-Member ms))) < size_alone table whole (size-Json c.args.json.now)) (sym is) (members-lt-alone table whole c.args.json.now c.in-Object.members c.in-Object.is) in
    (omega (arith, c.decreases, less), (c.requires.parts, c.requires.few))

pub decode_variant-decode_fields-requires : goal.decode_variant-decode_fields-requires
decode_variant-decode_fields-requires t c =
    let inside = found_inside tagged_name c.args.variants.now c.in-Text.name (c.in-Some.place, c.in-Some.chosen.now) (sym c.in-Some.ensures) in
    (omega (arith, c.decreases), rw c.as_slice.ensures (c.requires.parts c.in-Some.chosen.now inside))

pub decode_variant-in_variant-requires : goal.decode_variant-in_variant-requires
decode_variant-in_variant-requires t c =
    let less = place_below tagged_name c.args.variants.now c.in-Text.name (c.in-Some.place, c.in-Some.chosen.now) (sym c.in-Some.ensures) in
    omega (arith, less, c.requires.few)

pub decode_variant-returns : goal.decode_variant-returns
decode_variant-returns t c =
    let ms = c.args.members.now.items.now in
    let f : ℕ → TaggedVariant → Told = λ place variant. chosen place (told_struct c.args.self.now.table.now c.args.self.now.whole.now (tagged_fields variant) false ms) in
    let text = at_tag_text c.args.tag.now f c.args.variants.now c.args.name.now c.in-Text.name (ap out-Json c.in-Text.is ∙ json.outs-Text c.in-Text.name) in
    let at = text ∙ ap (where_found (below (Name c.args.tag.now) (refused NotListed)) f) (sym c.in-Some.ensures) in
    let answer = c.in_variant.ensures (as_tree Parts (told_fields c.args.self.now.table.now c.args.self.now.whole.now ms (tagged_fields c.in-Some.chosen.now))) (rw c.as_slice.ensures at c.decode_fields.ensures) in
    subst (λ (o : Told). Tells c.in_variant.result o) (sym at) answer
