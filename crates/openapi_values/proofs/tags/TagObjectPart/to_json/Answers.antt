use Rattle.std.proofs.Common.{Some, codes, option_map, refl}
use Rattle.schema_values.specs.declared.json_value.Json.{Text}
use Rattle.openapi_values.specs.Tags.{external_docs_json}
use Rattle.openapi_values.proofs.ObjectLemmas.{first, added, object}
use Rattle.openapi_values.proofs.tags.TagObjectPart.to_json.Goals as goal

pub returns : goal.returns
returns c =
    let tag = c.args.self.now in
    let written_1 = first (codes "name") (Some (Text tag.name)) _ _ _ c.in_ok-add_part.ensures refl in
    let written_2 = added written_1 (codes "description") (option_map Text tag.description) _ _ c.in_ok-add_option.ensures refl in
    object c.new-members.ensures (added written_2 (codes "externalDocs") (option_map external_docs_json tag.external_docs) _ _ c.in_ok-add_option-2.ensures refl)
