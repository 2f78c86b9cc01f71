use Rattle.std.proofs.Common.{Some, codes, option_map, refl}
use Rattle.schema_values.specs.declared.json_value.Json.{Text}
use Rattle.openapi_values.specs.IfTrue.{if_true}
use Rattle.openapi_values.specs.Parameters.{parameter_json}
use Rattle.openapi_values.proofs.ObjectLemmas.{first, added, object}
use Rattle.openapi_values.proofs.parameter.ParameterPart.to_json.Goals as goal

pub returns : goal.returns
unfolding parameter_json
returns c =
    let p = c.args.self.now in
    let written_1 = first (codes "in") (Some (Text p.location)) _ _ _ c.in_ok-add_part.ensures refl in
    let written_2 = added written_1 (codes "name") (Some (Text p.name)) _ _ c.in_ok-add_part-2.ensures refl in
    let written_3 = added written_2 (codes "description") (option_map Text p.description) _ _ c.in_ok-add_option.ensures refl in
    let written_4 = added written_3 (codes "required") (if_true p.required) _ _ c.in_ok-add.ensures c.true_json.ensures in
    object c.new-members.ensures (added written_4 (codes "schema") (Some p.schema) _ _ c.in_ok-add_part-3.ensures refl)
