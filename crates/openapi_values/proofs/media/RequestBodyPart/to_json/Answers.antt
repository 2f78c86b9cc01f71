use Rattle.std.proofs.Common.{codes, refl}
use Rattle.openapi_values.specs.IfTrue.{if_true}
use Rattle.openapi_values.specs.Operation.{content_json, request_body_json}
use Rattle.openapi_values.proofs.ObjectLemmas.{first, added, object}
use Rattle.openapi_values.proofs.media.RequestBodyPart.to_json.Goals as goal

pub returns : goal.returns
unfolding request_body_json
returns c =
    let body = c.args.self.now in
    let written_1 = first (codes "content") (content_json body.content) _ _ _ c.in_ok-add_map.ensures refl in
    object c.new-members.ensures (added written_1 (codes "required") (if_true body.required) _ _ c.in_ok-add.ensures c.true_json.ensures)
