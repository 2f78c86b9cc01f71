use Rattle.std.proofs.Common.{◌≡◌, [], Some, take, map}
use Rattle.serde_json.specs.View.{items_view, members_view}
use Rattle.schema_values.specs.Reading.{items_of}
use Rattle.schema_values.specs.SortedMembers.{in_order_after, sorted_member, sorted_members}
use Rattle.schema_values.proofs.Grammar.{Kept}
use Rattle.schema_values.proofs.+to_value.Given as goal

abbrev pub invariant-value::values_of_items-loop-item : goal.invariant-value::values_of_items-loop-item
invariant-value::values_of_items-loop-item l = items_of (items_view l.values.items) ≡ Some (map sorted_members (take l.item-index l.items))

abbrev pub invariant-value::map_of_members-loop-member : goal.invariant-value::map_of_members-loop-member
invariant-value::map_of_members-loop-member l = Kept (members_view l.entries.entries) (in_order_after [] (map sorted_member (take l.member-index l.members)))
