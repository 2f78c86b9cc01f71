use Rattle.std.proofs.Common.{rules, ◌≡◌, ◌∙◌, ap, sum, map, suc, arith}
use Rattle.schema_values.specs.declared.json_value.Json.{out-Json}
use Rattle.schema_values.specs.declared.json_value.Json.TheVariants.{outs-List, outs-Object}
use Rattle.openapi_values.specs.Room.{values}
use Rattle.openapi_values.specs.ValuesOfMembers.{member_values}
use Rattle.openapi_values.proofs.RoomLemmas.{values_row, values_is}
use Rattle.openapi_values.proofs.room.inside.Goals as goal

pub returns-in-List : goal.returns-in-List
returns-in-List c =
    let is : values c.args.value.now ≡ suc (sum (map values c.in-List.items)) = values_is c.args.value.now ∙ ap values_row (ap out-Json c.in-List.is ∙ outs-List c.in-List.items) in
    omega (arith, is, c.of_items.ensures, ap (λ xs. sum (map values xs)) c.as_slice.ensures)

pub returns-in-Object : goal.returns-in-Object
returns-in-Object c =
    let is : values c.args.value.now ≡ suc (sum (map member_values c.in-Object.members)) = values_is c.args.value.now ∙ ap values_row (ap out-Json c.in-Object.is ∙ outs-Object c.in-Object.members) in
    omega (arith, is, c.of_members.ensures, ap (λ xs. sum (map member_values xs)) c.as_slice-in-Object.ensures)

pub returns-in_default : goal.returns-in_default
returns-in_default c =
    let one : values_row (out-Json c.args.value.now) ≡ 1 = search rules in
    omega (arith, values_is c.args.value.now, one)
