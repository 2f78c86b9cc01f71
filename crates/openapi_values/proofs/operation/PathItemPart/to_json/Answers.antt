use Rattle.std.proofs.Common.{codes, option_map, refl}
use Rattle.openapi_values.specs.Operation.{operation_json, path_item_json}
use Rattle.openapi_values.proofs.ObjectLemmas.{first, added, object}
use Rattle.openapi_values.proofs.operation.PathItemPart.to_json.Goals as goal

pub returns : goal.returns
unfolding path_item_json
returns c =
    let item = c.args.self.now in
    let written_1 = first (codes "get") (option_map operation_json item.get) _ _ _ c.in_ok-add_option.ensures refl in
    let written_2 = added written_1 (codes "put") (option_map operation_json item.put) _ _ c.in_ok-add_option-2.ensures refl in
    let written_3 = added written_2 (codes "post") (option_map operation_json item.post) _ _ c.in_ok-add_option-3.ensures refl in
    let written_4 = added written_3 (codes "delete") (option_map operation_json item.delete) _ _ c.in_ok-add_option-4.ensures refl in
    let written_5 = added written_4 (codes "options") (option_map operation_json item.options) _ _ c.in_ok-add_option-5.ensures refl in
    let written_6 = added written_5 (codes "head") (option_map operation_json item.head) _ _ c.in_ok-add_option-6.ensures refl in
    let written_7 = added written_6 (codes "patch") (option_map operation_json item.patch) _ _ c.in_ok-add_option-7.ensures refl in
    object c.new-members.ensures (added written_7 (codes "trace") (option_map operation_json item.trace) _ _ c.in_ok-add_option-8.ensures refl)
