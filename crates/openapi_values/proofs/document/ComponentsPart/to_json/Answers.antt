use Rattle.std.proofs.Common.{codes, refl}
use Rattle.openapi_values.specs.Objects.{map_members, unless_empty}
use Rattle.openapi_values.specs.Operation.{response_json}
use Rattle.openapi_values.specs.Document.{components_json}
use Rattle.openapi_values.proofs.ObjectLemmas.{first, added, object}
use Rattle.openapi_values.proofs.document.ComponentsPart.to_json.Goals as goal

pub returns : goal.returns
unfolding components_json
returns c =
    let components = c.args.self.now in
    let written_1 = first (codes "responses") (unless_empty (map_members response_json components.responses)) _ _ _ c.in_ok-add_map.ensures refl in
    object c.new-members.ensures (added written_1 (codes "schemas") (unless_empty (map_members (λ schema. schema) components.schemas)) _ _ c.in_ok-add_map-2.ensures refl)
