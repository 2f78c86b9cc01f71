use Rattle.std.proofs.Common.{◌≡◌, ◌+◌, ◌*◌, drop, take, count_by}
use Rattle.std.specs.List.{list_all, list_any}
use Rattle.schema_values.specs.declared.json_value.Json.{out-Json}
use Rattle.schema_values.specs.declared.json_value.Member.{Member}
use Rattle.openapi_values.specs.Admitter.{room_at, admits_of, smaller_of}
use Rattle.openapi_values.specs.Asked.{asked_json}
use Rattle.openapi_values.specs.Keywords.{keyword_of}
use Rattle.openapi_values.specs.Rows.{row, property_admitted, other_admitted}
use Rattle.openapi_values.specs.Steps.{left}
use Rattle.openapi_values.proofs.Measure.{at_measure, items_measure, members_measure, member_measure}
use Rattle.openapi_values.proofs.admits.Admitter.+admits.Given as goal

abbrev pub decreases-admits : goal.decreases-admits
decreases-admits l = at_measure (room_at l.self.now) (8 * left l.steps.now) (asked_json l.asked.now)

abbrev pub decreases-admits_anew : goal.decreases-admits_anew
decreases-admits_anew l = at_measure (room_at l.self.now) (8 * room_at l.self.now) (asked_json l.asked.now)

abbrev pub decreases-schema_admits : goal.decreases-schema_admits
decreases-schema_admits l = at_measure (room_at l.self.now) (8 * left l.next.now + 7) (asked_json l.asked.now)

abbrev pub decreases-members_admit : goal.decreases-members_admit
decreases-members_admit l = at_measure (room_at l.self.now) (8 * left l.next.now + 6) (asked_json l.asked.now)

abbrev pub decreases-object_admits : goal.decreases-object_admits
decreases-object_admits l = at_measure (room_at l.self.now) (8 * left l.next.now + 5) (asked_json l.asked.now)

abbrev pub decreases-members_hold : goal.decreases-members_hold
decreases-members_hold l = at_measure (room_at l.self.now) (8 * left l.next.now + 4) (asked_json l.asked.now)

abbrev pub decreases-member_holds : goal.decreases-member_holds
decreases-member_holds l = at_measure (room_at l.self.now) (8 * left l.next.now + 3) (asked_json l.asked.now)

abbrev pub decreases-every_admits : goal.decreases-every_admits
decreases-every_admits l = at_measure (room_at l.self.now) (8 * left l.next.now + 2) (asked_json l.asked.now)

abbrev pub decreases-some_admits : goal.decreases-some_admits
decreases-some_admits l = at_measure (room_at l.self.now) (8 * left l.next.now + 2) (asked_json l.asked.now)

abbrev pub decreases-one_admits : goal.decreases-one_admits
decreases-one_admits l = at_measure (room_at l.self.now) (8 * left l.next.now + 2) (asked_json l.asked.now)

abbrev pub decreases-all_admit : goal.decreases-all_admit
decreases-all_admit l = at_measure (room_at l.self.now) (8 * left l.next.now + 1) (asked_json l.asked.now)

abbrev pub decreases-any_admits : goal.decreases-any_admits
decreases-any_admits l = at_measure (room_at l.self.now) (8 * left l.next.now + 1) (asked_json l.asked.now)

abbrev pub decreases-count_admitting : goal.decreases-count_admitting
decreases-count_admitting l = at_measure (room_at l.self.now) (8 * left l.next.now + 1) (asked_json l.asked.now)

abbrev pub decreases-items_hold : goal.decreases-items_hold
decreases-items_hold l = at_measure (room_at l.self.now) 2 (asked_json l.asked.now)

abbrev pub decreases-items_admitted : goal.decreases-items_admitted
decreases-items_admitted l = items_measure (room_at l.self.now) l.items.now

abbrev pub decreases-properties_hold : goal.decreases-properties_hold
decreases-properties_hold l = at_measure (room_at l.self.now) 2 (asked_json l.asked.now)

abbrev pub decreases-properties_admitted : goal.decreases-properties_admitted
decreases-properties_admitted l = members_measure (room_at l.self.now) l.members.now + 1

abbrev pub decreases-members_admitted : goal.decreases-members_admitted
decreases-members_admitted l = members_measure (room_at l.self.now) l.members.now

abbrev pub decreases-property_admitted : goal.decreases-property_admitted
decreases-property_admitted l = member_measure (room_at l.self.now) l.member.now

abbrev pub decreases-others_hold : goal.decreases-others_hold
decreases-others_hold l = at_measure (room_at l.self.now) 2 (asked_json l.asked.now)

abbrev pub decreases-others_admitted : goal.decreases-others_admitted
decreases-others_admitted l = members_measure (room_at l.self.now) l.members.now

abbrev pub decreases-other_admitted : goal.decreases-other_admitted
decreases-other_admitted l = member_measure (room_at l.self.now) l.member.now

abbrev pub invariant-members_hold-loop-member : goal.invariant-members_hold-loop-member
invariant-members_hold-loop-member l =
    list_all (λ (m : Member). row (smaller_of l.self) (admits_of l.self l.asked (left l.next)) (asked_json l.asked) (out-Json (asked_json l.asked)) l.schema (keyword_of m.name) m.value) (drop l.member-index l.schema)
    ≡ list_all (λ (m : Member). row (smaller_of l.self) (admits_of l.self l.asked (left l.next)) (asked_json l.asked) (out-Json (asked_json l.asked)) l.schema (keyword_of m.name) m.value) l.fn.schema

abbrev pub invariant-all_admit-loop-schema : goal.invariant-all_admit-loop-schema
invariant-all_admit-loop-schema l =
    list_all (admits_of l.self l.asked (left l.next)) (drop l.schema-index l.schemas) ≡ list_all (admits_of l.self l.asked (left l.next)) l.fn.schemas

abbrev pub invariant-any_admits-loop-schema : goal.invariant-any_admits-loop-schema
invariant-any_admits-loop-schema l =
    list_any (admits_of l.self l.asked (left l.next)) (drop l.schema-index l.schemas) ≡ list_any (admits_of l.self l.asked (left l.next)) l.fn.schemas

abbrev pub invariant-count_admitting-loop-schema : goal.invariant-count_admitting-loop-schema
invariant-count_admitting-loop-schema l = l.count ≡ count_by (admits_of l.self l.asked (left l.next)) (take l.schema-index l.schemas)

abbrev pub invariant-items_admitted-loop-item : goal.invariant-items_admitted-loop-item
invariant-items_admitted-loop-item l =
    list_all (λ x. smaller_of l.self x l.schema) (drop l.item-index l.items) ≡ list_all (λ x. smaller_of l.self x l.schema) l.fn.items

abbrev pub invariant-members_admitted-loop-member : goal.invariant-members_admitted-loop-member
invariant-members_admitted-loop-member l =
    list_all (λ (m : Member). property_admitted (smaller_of l.self) l.properties m) (drop l.member-index l.members)
    ≡ list_all (λ (m : Member). property_admitted (smaller_of l.self) l.properties m) l.fn.members

abbrev pub invariant-others_admitted-loop-member : goal.invariant-others_admitted-loop-member
invariant-others_admitted-loop-member l =
    list_all (λ (m : Member). other_admitted (smaller_of l.self) l.schema l.allowed m) (drop l.member-index l.members)
    ≡ list_all (λ (m : Member). other_admitted (smaller_of l.self) l.schema l.allowed m) l.fn.members
