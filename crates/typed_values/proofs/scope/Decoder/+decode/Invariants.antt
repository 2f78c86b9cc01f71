use Rattle.std.proofs.Common.{◌≡◌, suc, drop, map}
use Rattle.typed_values.specs.Denotes.{told, first_told, all_told}
use Rattle.typed_values.specs.Rows.{told_item, told_field, told_fields, told_entry}
use denote.Param.Weighed.{most}
use Rattle.schema_values.specs.declared.json_value.Json.{size-Json}
use Rattle.schema_values.specs.declared.json_value.Member.{size-Member}
use Rattle.typed_values.proofs.Measure.{at_size, choice_at_size, size_alone}
use Rattle.typed_values.proofs.Loops.{after}
use Rattle.typed_values.proofs.scope.Decoder.+decode.Given as goal

abbrev pub decreases-decode_at : goal.decreases-decode_at
decreases-decode_at l = at_size l.self.now.table.now l.self.now.whole.now (size-Json l.json.now) l.desc.now

abbrev pub decreases-decode_untagged : goal.decreases-decode_untagged
decreases-decode_untagged l = choice_at_size l.self.now.table.now l.self.now.whole.now (size-Json l.json.now) l.alternatives.now

abbrev pub decreases-decode_option : goal.decreases-decode_option
decreases-decode_option l = suc (at_size l.self.now.table.now l.self.now.whole.now (size-Json l.json.now) l.inner.now)

abbrev pub decreases-decode_list : goal.decreases-decode_list
decreases-decode_list l = size_alone l.self.now.table.now l.self.now.whole.now (size-Json l.json.now)

abbrev pub decreases-decode_map : goal.decreases-decode_map
decreases-decode_map l = size_alone l.self.now.table.now l.self.now.whole.now (size-Json l.json.now)

abbrev pub decreases-decode_entry : goal.decreases-decode_entry
decreases-decode_entry l = size_alone l.self.now.table.now l.self.now.whole.now (size-Member l.member.now)

abbrev pub decreases-decode_struct : goal.decreases-decode_struct
decreases-decode_struct l = suc (size_alone l.self.now.table.now l.self.now.whole.now (size-Json l.json.now))

abbrev pub decreases-decode_fields : goal.decreases-decode_fields
decreases-decode_fields l = suc (size_alone l.self.now.table.now l.self.now.whole.now (most size-Member l.members.now.items.now))

abbrev pub decreases-decode_field : goal.decreases-decode_field
decreases-decode_field l = size_alone l.self.now.table.now l.self.now.whole.now (most size-Member l.members.now.items.now)

abbrev pub decreases-decode_external : goal.decreases-decode_external
decreases-decode_external l = suc (size_alone l.self.now.table.now l.self.now.whole.now (size-Json l.json.now))

abbrev pub decreases-decode_payload : goal.decreases-decode_payload
decreases-decode_payload l = size_alone l.self.now.table.now l.self.now.whole.now (size-Member l.member.now)

abbrev pub decreases-decode_tagged : goal.decreases-decode_tagged
decreases-decode_tagged l = suc (size_alone l.self.now.table.now l.self.now.whole.now (size-Json l.json.now))

abbrev pub decreases-decode_variant : goal.decreases-decode_variant
decreases-decode_variant l = suc (suc (size_alone l.self.now.table.now l.self.now.whole.now (most size-Member l.members.now.items.now)))

abbrev pub invariant-decode_fields-loop-field : goal.invariant-decode_fields-loop-field
invariant-decode_fields-loop-field l =
    told_fields l.self.table.now l.self.whole.now l.members.items.now l.fields
    ≡ after l.trees (all_told (λ i f. told_field l.self.table.now l.self.whole.now l.members.items.now f) l.field-index (drop l.field-index l.fields))

abbrev pub invariant-decode_list-loop-i : goal.invariant-decode_list-loop-i
invariant-decode_list-loop-i l =
    all_told (told_item l.self.table.now l.self.whole.now l.item) 0 l.items
    ≡ after l.trees (all_told (told_item l.self.table.now l.self.whole.now l.item) l.i (drop l.i l.items))

abbrev pub invariant-decode_map-loop-member : goal.invariant-decode_map-loop-member
invariant-decode_map-loop-member l =
    let told = told_entry l.self.table.now l.self.whole.now l.value in
    let members = map (λ member. member.now) l.member-items in
    all_told (λ i m. told m) 0 members ≡ after l.pairs (all_told (λ i m. told m) l.member-index (drop l.member-index members))

abbrev pub invariant-decode_untagged-loop-i : goal.invariant-decode_untagged-loop-i
invariant-decode_untagged-loop-i l =
    first_told 0 (told l.self.table.now l.self.whole.now l.json) l.alternatives
    ≡ first_told l.i (told l.self.table.now l.self.whole.now l.json) (drop l.i l.alternatives)
