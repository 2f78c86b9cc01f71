use Rattle.std.proofs.Common.{Some, codes, option_map, refl}
use Rattle.schema_values.specs.declared.json_value.Json.{Text}
use Rattle.openapi_values.specs.IfTrue.{if_true}
use Rattle.openapi_values.specs.Parameters.{header_json}
use Rattle.openapi_values.proofs.ObjectLemmas.{first, added, object}
use Rattle.openapi_values.proofs.parameter.HeaderObjectPart.to_json.Goals as goal

pub returns : goal.returns
unfolding header_json
returns c =
    let h = c.args.self.now in
    let written_1 = first (codes "description") (option_map Text h.description) _ _ _ c.in_ok-add_option.ensures refl in
    let written_2 = added written_1 (codes "style") (Some (Text h.style)) _ _ c.in_ok-add_part.ensures refl in
    let written_3 = added written_2 (codes "required") (if_true h.required) _ _ c.in_ok-add.ensures c.true_json.ensures in
    object c.new-members.ensures (added written_3 (codes "schema") (Some h.schema) _ _ c.in_ok-add_part-2.ensures refl)
