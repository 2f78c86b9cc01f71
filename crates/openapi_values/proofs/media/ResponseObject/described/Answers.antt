use Rattle.std.proofs.Common.{codes, option_map, refl}
use Rattle.schema_values.specs.declared.json_value.Json.{Text}
use Rattle.openapi_values.specs.Objects.{map_members, unless_empty}
use Rattle.openapi_values.specs.Operation.{content_json, described_json}
use Rattle.openapi_values.specs.Parameters.{header_json}
use Rattle.openapi_values.proofs.ObjectLemmas.{first, added, object}
use Rattle.openapi_values.proofs.media.ResponseObject.described.Goals as goal

pub returns : goal.returns
unfolding described_json
returns c =
    let response = c.args.self.now in
    let written_1 = first (codes "description") (option_map Text response.description) _ _ _ c.in_ok-add_option.ensures refl in
    let written_2 = added written_1 (codes "headers") (unless_empty (map_members header_json response.headers)) _ _ c.in_ok-add_map.ensures refl in
    object c.new-members.ensures (added written_2 (codes "content") (content_json response.content) _ _ c.in_ok-add_map-2.ensures refl)
