use Rattle.std.proofs.Common.{Some, codes, option_map, refl}
use Rattle.schema_values.specs.declared.json_value.Json.{Text}
use Rattle.openapi_values.specs.Info.{contact_json, license_json, info_json}
use Rattle.openapi_values.proofs.ObjectLemmas.{first, added, object}
use Rattle.openapi_values.proofs.info.InfoPart.to_json.Goals as goal

pub returns : goal.returns
unfolding info_json
returns c =
    let info = c.args.self.now in
    let written_1 = first (codes "title") (Some (Text info.title)) _ _ _ c.in_ok-add_part.ensures refl in
    let written_2 = added written_1 (codes "description") (option_map Text info.description) _ _ c.in_ok-add_option.ensures refl in
    let written_3 = added written_2 (codes "termsOfService") (option_map Text info.terms_of_service) _ _ c.in_ok-add_option-2.ensures refl in
    let written_4 = added written_3 (codes "contact") (option_map contact_json info.contact) _ _ c.in_ok-add_option-3.ensures refl in
    let written_5 = added written_4 (codes "license") (option_map license_json info.license) _ _ c.in_ok-add_option-4.ensures refl in
    object c.new-members.ensures (added written_5 (codes "version") (Some (Text info.version)) _ _ c.in_ok-add_part-2.ensures refl)
