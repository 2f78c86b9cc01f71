use Rattle.std.proofs.Common.{codes, is_some, ap, ◌∙◌}
use Rattle.openapi_values.specs.IfTrue.{if_true}
use Rattle.openapi_values.specs.SchemaJson.{bound_json}
use Rattle.openapi_values.proofs.ObjectLemmas.{first, added}
use Rattle.openapi_values.proofs.schema_parts.add_given_bounds.Goals as goal

pub returns : goal.returns
returns c =
    let bounds = c.args.bounds.now in
    let above = first (codes "exclusiveMinimum") (if_true (is_some bounds.exclusive_minimum)) _ _ _ c.in_ok-add.ensures (c.true_json-is_above.ensures ∙ ap if_true c.is_some.ensures) in
    let below = added above (codes "exclusiveMaximum") (if_true (is_some bounds.exclusive_maximum)) _ _ c.in_ok-add-2.ensures (c.true_json-is_below.ensures ∙ ap if_true c.is_some-2.ensures) in
    let least = added below (codes "minimum") (bound_json bounds.minimum bounds.exclusive_minimum) _ _ c.in_ok-add-3.ensures c.bound_json-least.ensures in
    (added least (codes "maximum") (bound_json bounds.maximum bounds.exclusive_maximum) _ _ c.in_ok-add-4.ensures c.bound_json-greatest.ensures).are
