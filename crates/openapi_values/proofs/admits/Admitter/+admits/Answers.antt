use Rattle.std.proofs.Common.{◌≡◌, ◌∙◌, suc, Bool, take, sym, ap, arith}
use Rattle.std.proofs.lemmas.List.{length-take}
use Rattle.std.proofs.lemmas.List.Sums.{count_by-le-length}
use Rattle.schema_values.specs.declared.json_value.Json.{Json, out-Json}
use Rattle.schema_values.specs.declared.json_value.Json.TheOpen.{Json-F}
use Rattle.schema_values.specs.declared.json_value.Json.TheVariants as json
use Rattle.openapi_values.specs.Admitter.{room_at, admits_of, smaller_of}
use Rattle.openapi_values.specs.Asked.{asked_json}
use Rattle.openapi_values.specs.JsonAdmits.{members_admit}
use Rattle.openapi_values.specs.Levels.{as_object}
use Rattle.openapi_values.specs.Options.{is_some_and}
use Rattle.openapi_values.specs.Steps.{left}
use Rattle.openapi_values.proofs.Measure.{items-lt, members-lt, item-lt, member-lt, value-lt}
use Rattle.openapi_values.proofs.Steps.{admits-zero, admits-suc}
use Rattle.openapi_values.proofs.StepsLeft.{left_end, items_passed, members_passed, one_step}
use Rattle.openapi_values.proofs.admits.Admitter.+admits.Goals as goal

pub admits-returns-in-End : goal.admits-returns-in-End
admits-returns-in-End t c =
    let doc = c.args.self.now.doc.now in
    let room = room_at c.args.self.now in
    let none : left c.args.steps.now ≡ 0 = ap left c.in-End.is ∙ left_end in
    rw none (sym (admits-zero doc room (asked_json c.args.asked.now) c.args.schema.now))

pub admits-schema_admits-requires : goal.admits-schema_admits-requires
admits-schema_admits-requires t c =
    let less : suc (left c.inside.result) ≡ left c.args.steps.now = items_passed c.args.steps.now c.in-Items.first c.in-Items.later c.in-Items.after _ _ c.in-Items.is c.of_items-after.ensures c.inside.ensures in
    (omega (arith, c.decreases, less), omega (arith, less))

pub admits-returns-in-Items : goal.admits-returns-in-Items
admits-returns-in-Items t c =
    let less : suc (left c.inside.result) ≡ left c.args.steps.now = items_passed c.args.steps.now c.in-Items.first c.in-Items.later c.in-Items.after _ _ c.in-Items.is c.of_items-after.ensures c.inside.ensures in
    c.schema_admits.ensures ∙ one_step c.args.self.now (asked_json c.args.asked.now) _ _ c.args.schema.now less

pub admits-schema_admits-requires-in-Members : goal.admits-schema_admits-requires-in-Members
admits-schema_admits-requires-in-Members t c =
    let less : suc (left c.inside-in-Members.result) ≡ left c.args.steps.now = members_passed c.args.steps.now c.in-Members.first c.in-Members.later c.in-Members.after _ _ c.in-Members.is c.of_members-after.ensures c.inside-in-Members.ensures in
    (omega (arith, c.decreases, less), omega (arith, less))

pub admits-returns-in-Members : goal.admits-returns-in-Members
admits-returns-in-Members t c =
    let less : suc (left c.inside-in-Members.result) ≡ left c.args.steps.now = members_passed c.args.steps.now c.in-Members.first c.in-Members.later c.in-Members.after _ _ c.in-Members.is c.of_members-after.ensures c.inside-in-Members.ensures in
    c.schema_admits-in-Members.ensures ∙ one_step c.args.self.now (asked_json c.args.asked.now) _ _ c.args.schema.now less

pub admits_anew-returns : goal.admits_anew-returns
admits_anew-returns t c =
    let self = c.args.self.now in
    c.schema_admits.ensures ∙ sym (admits-suc self.doc.now (room_at self) (asked_json c.args.asked.now) (left self.after_first.now) c.args.schema.now)

pub schema_admits-returns-in-Object : goal.schema_admits-returns-in-Object
schema_admits-returns-in-Object t c =
    let self = c.args.self.now in
    let next = admits_of self c.args.asked.now (left c.args.next.now) in
    let level : out-Json c.args.schema.now ≡ Json-F.Object c.in-Object.members = ap out-Json c.in-Object.is ∙ json.outs-Object c.in-Object.members in
    c.members_admit.ensures
    ∙ rw c.as_slice.ensures (ap (λ s. is_some_and (as_object s) (members_admit self.doc.now (smaller_of self) next (asked_json c.args.asked.now) (out-Json (asked_json c.args.asked.now)))) (sym level))

pub items_hold-items_admitted-requires : goal.items_hold-items_admitted-requires
items_hold-items_admitted-requires t c =
    let less = items-lt (room_at c.args.self.now) 2 (asked_json c.args.asked.now) c.asked_items.result c.in-Some.items c.asked_items.ensures c.in-Some.is (omega arith) in
    omega (arith, c.decreases, less)

pub properties_hold-properties_admitted-requires : goal.properties_hold-properties_admitted-requires
properties_hold-properties_admitted-requires t c =
    let less = members-lt (room_at c.args.self.now) 2 (asked_json c.args.asked.now) c.asked_members.result c.in-Some.members c.asked_members.ensures c.in-Some.is (omega arith) in
    omega (arith, c.decreases, less)

pub others_hold-others_admitted-requires : goal.others_hold-others_admitted-requires
others_hold-others_admitted-requires t c =
    let less = members-lt (room_at c.args.self.now) 2 (asked_json c.args.asked.now) c.asked_members.result c.in-Some.members c.asked_members.ensures c.in-Some.is (omega arith) in
    omega (arith, c.decreases, less)

pub items_admitted-admits_anew-requires : goal.items_admitted-admits_anew-requires
items_admitted-admits_anew-requires t c =
    let less = item-lt (room_at c.args.self.now) c.args.items.now c.loop-item.item-index c.item-item.result c.loop-item-test.true c.item-item.is in
    omega (arith, c.decreases, less)

pub members_admitted-property_admitted-requires : goal.members_admitted-property_admitted-requires
members_admitted-property_admitted-requires t c =
    let less = member-lt (room_at c.args.self.now) c.args.members.now c.loop-member.member-index c.member-item.result c.loop-member-test.true c.member-item.is in
    omega (arith, c.decreases, less)

pub others_admitted-other_admitted-requires : goal.others_admitted-other_admitted-requires
others_admitted-other_admitted-requires t c =
    let less = member-lt (room_at c.args.self.now) c.args.members.now c.loop-member.member-index c.member-item.result c.loop-member-test.true c.member-item.is in
    omega (arith, c.decreases, less)

pub property_admitted-admits_anew-requires : goal.property_admitted-admits_anew-requires
property_admitted-admits_anew-requires t c =
    let less = value-lt (room_at c.args.self.now) c.args.member.now in
    omega (arith, c.decreases, less)

pub other_admitted-admits_anew-requires : goal.other_admitted-admits_anew-requires
other_admitted-admits_anew-requires t c =
    let less = value-lt (room_at c.args.self.now) c.args.member.now in
    omega (arith, c.decreases, less)

pub count_admitting-overflow_add-count : goal.count_admitting-overflow_add-count
count_admitting-overflow_add-count t c =
    let p : Json → Bool = admits_of c.args.self.now c.args.asked.now (left c.args.next.now) in
    let most = count_by-le-length p (take c.loop-schema.schema-index c.args.schemas.now) in
    omega (arith, most, length-take {A = Json})
