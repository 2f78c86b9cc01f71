use Rattle.std.proofs.Common.{◌≡◌, ◌∙◌, suc, IsTrue, sym, subst, arith, chars}
use Rattle.openapi_values.specs.Room.{room}
use Rattle.openapi_values.specs.Steps.{left}
use Rattle.openapi_values.proofs.StepsLeft.{left_end, of_one}
use Rattle.openapi_values.proofs.TextWithin.{within-suc}
use Rattle.openapi_values.proofs.texts.text_admits.Goals as goal

pub returns : goal.returns
returns c =
    let doc = c.args.doc.now in
    let schema = c.args.schema.now in
    let of_schema = of_one schema _ _ _ c.from_ref.ensures.value c.of_items-of_schema.ensures in
    let of_both = of_one doc _ _ _ c.from_ref-2.ensures.value c.of_items-of_both.ensures in
    let whole : suc (left c.of_items-of_both.result) ≡ room doc schema = omega (arith, of_schema, of_both, left_end) in
    let same = c.step.ensures ∙ within-suc doc (chars c.args.text.now) (left c.of_items-of_both.result) (room doc schema) schema whole in
    (subst IsTrue same, subst IsTrue (sym same))
