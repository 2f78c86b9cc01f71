use Rattle.std.proofs.Common.{codes, option_map, refl}
use Rattle.schema_values.specs.declared.json_value.Json.{Text}
use Rattle.openapi_values.proofs.ObjectLemmas.{first, added, object}
use Rattle.openapi_values.proofs.info.ContactPart.to_json.Goals as goal

pub returns : goal.returns
returns c =
    let contact = c.args.self.now in
    let written_1 = first (codes "name") (option_map Text contact.name) _ _ _ c.in_ok-add_option.ensures refl in
    let written_2 = added written_1 (codes "url") (option_map Text contact.url) _ _ c.in_ok-add_option-2.ensures refl in
    object c.new-members.ensures (added written_2 (codes "email") (option_map Text contact.email) _ _ c.in_ok-add_option-3.ensures refl)
