use Rattle.std.proofs.Common.{Some, codes, option_map, refl}
use Rattle.schema_values.specs.declared.json_value.Json.{Text}
use Rattle.openapi_values.proofs.ObjectLemmas.{first, added, object}
use Rattle.openapi_values.proofs.info.LicensePart.to_json.Goals as goal

pub returns : goal.returns
returns c =
    let license = c.args.self.now in
    let written_1 = first (codes "name") (Some (Text license.name)) _ _ _ c.in_ok-add_part.ensures refl in
    object c.new-members.ensures (added written_1 (codes "url") (option_map Text license.url) _ _ c.in_ok-add_option.ensures refl)
