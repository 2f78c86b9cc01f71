use Rattle.std.proofs.Common.{◌≡◌, ◌++◌, List, Some, take}
use Rattle.serde_json.specs.View.{items_view, members_view}
use Rattle.serde_json.proofs.Views.{Entry}
use Rattle.schema_values.specs.declared.json_value.Json.{Json}
use Rattle.schema_values.specs.declared.json_value.Member.{Member}
use Rattle.schema_values.specs.Reading.{items_of, members_of}
use Rattle.schema_values.proofs.value.+holds_float.Given as goal

abbrev pub invariant-some_item_holds_float-loop-value : goal.invariant-some_item_holds_float-loop-value
invariant-some_item_holds_float-loop-value l = (jsons : List Json) × (items_of (items_view (take l.value-index l.values.items)) ≡ Some jsons)

abbrev pub invariant-some_member_holds_float-loop-name : goal.invariant-some_member_holds_float-loop-name
invariant-some_member_holds_float-loop-name l =
    (done : List Entry) × (members : List Member) × (l.map.entries ≡ done ++ l._name-iterator) × (members_of (members_view done) ≡ Some members)
