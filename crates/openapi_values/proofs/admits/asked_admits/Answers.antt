use Rattle.std.proofs.Common.{◌≡◌, ◌∙◌, ℕ, suc, ap, arith}
use Rattle.openapi_values.specs.Asked.{asked_json}
use Rattle.openapi_values.specs.JsonAdmits.{admits_within}
use Rattle.openapi_values.specs.Room.{room}
use Rattle.openapi_values.specs.Steps.{left}
use Rattle.openapi_values.proofs.StepsLeft.{left_end, of_one}
use Rattle.openapi_values.proofs.admits.asked_admits.Goals as goal

pub returns : goal.returns
returns c =
    let doc = c.args.doc.now in
    let schema = c.args.schema.now in
    let of_schema = of_one schema _ _ _ c.from_ref.ensures.value c.of_items-of_schema.ensures in
    let of_both = of_one doc _ _ _ c.from_ref-2.ensures.value c.of_items-of_both.ensures in
    let whole : suc (left c.of_items-of_both.result) ≡ room doc schema = omega (arith, of_schema, of_both, left_end) in
    c.admits_anew.ensures ∙ ap (λ (n : ℕ). admits_within doc n (asked_json c.args.asked.now) n schema) whole
