use Rattle.std.proofs.Common.{Some, codes, map, option_map, refl}
use Rattle.schema_values.specs.declared.json_value.Json.{Text}
use Rattle.openapi_values.specs.IfTrue.{if_true}
use Rattle.openapi_values.specs.Objects.{list_unless_empty, map_members, unless_empty}
use Rattle.openapi_values.specs.Operation.{request_body_json, response_json, pagination_json, operation_json}
use Rattle.openapi_values.specs.Parameters.{parameter_json}
use Rattle.openapi_values.proofs.ObjectLemmas.{first, added, object}
use Rattle.openapi_values.proofs.operation.OperationPart.to_json.Goals as goal

pub returns : goal.returns
unfolding operation_json
returns c =
    let operation = c.args.self.now in
    let written_1 = first (codes "tags") (list_unless_empty (map Text operation.tags)) _ _ _ c.in_ok-add_list.ensures refl in
    let written_2 = added written_1 (codes "summary") (option_map Text operation.summary) _ _ c.in_ok-add_option.ensures refl in
    let written_3 = added written_2 (codes "description") (option_map Text operation.description) _ _ c.in_ok-add_option-2.ensures refl in
    let written_4 = added written_3 (codes "operationId") (Some (Text operation.operation_id)) _ _ c.in_ok-add_part.ensures refl in
    let written_5 = added written_4 (codes "parameters") (list_unless_empty (map parameter_json operation.parameters)) _ _ c.in_ok-add_list-2.ensures refl in
    let written_6 = added written_5 (codes "requestBody") (option_map request_body_json operation.request_body) _ _ c.in_ok-add_option-3.ensures refl in
    let written_7 = added written_6 (codes "responses") (unless_empty (map_members response_json operation.responses)) _ _ c.in_ok-add_map.ensures refl in
    let written_8 = added written_7 (codes "deprecated") (if_true operation.deprecated) _ _ c.in_ok-add.ensures c.true_json.ensures in
    object c.new-members.ensures (added written_8 (codes "x-dropshot-pagination") (option_map pagination_json operation.pagination) _ _ c.in_ok-add-2.ensures c.in_ok-pagination.ensures)
