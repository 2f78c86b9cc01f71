use Rattle.std.proofs.Common.{Some, codes, map, ap, refl}
use Rattle.schema_values.specs.declared.json_value.Json.{Text, Object}
use Rattle.openapi_values.specs.Document.{components_json, open_api_json}
use Rattle.openapi_values.specs.Info.{info_json}
use Rattle.openapi_values.specs.Objects.{list_unless_empty, map_members}
use Rattle.openapi_values.specs.Operation.{path_item_json}
use Rattle.openapi_values.specs.Tags.{tag_json}
use Rattle.openapi_values.proofs.ObjectLemmas.{first, added, object}
use Rattle.openapi_values.proofs.document.OpenApiPart.to_json.Goals as goal

pub returns : goal.returns
unfolding open_api_json
returns c =
    let document = c.args.self.now in
    let written_1 = first (codes "openapi") (Some (Text document.openapi)) _ _ _ c.in_ok-add_part.ensures refl in
    let written_2 = added written_1 (codes "info") (Some (info_json document.info)) _ _ c.in_ok-add_part-2.ensures refl in
    let written_3 = added written_2 (codes "paths") (Some (Object (map_members path_item_json document.paths))) _ _ c.in_ok-add.ensures (ap (λ ms. Some (Object ms)) c.in_ok-map_json.ensures) in
    let written_4 = added written_3 (codes "components") (Some (components_json document.components)) _ _ c.in_ok-add_part-3.ensures refl in
    object c.new-members.ensures (added written_4 (codes "tags") (list_unless_empty (map tag_json document.tags)) _ _ c.in_ok-add_list.ensures refl)
