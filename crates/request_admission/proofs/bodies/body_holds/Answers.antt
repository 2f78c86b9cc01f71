use Rattle.std.proofs.Common.{◌↔◌, IsTrue, sym, ◌∙◌}
use Rattle.std.proofs.lemmas.Result.{IfOk-weaker}
use Rattle.openapi_values.specs.RequestBodies.{IsFormBody, BodyHolds}
use Rattle.request_admission.proofs.BodiesTold.{form_told}
use Rattle.request_admission.proofs.Found.{none_found}
use Rattle.request_admission.proofs.bodies.body_holds.Goals as goal

pub returns : goal.returns
returns c =
    let doc = c.args.doc.now in
    let request = c.args.request.now in
    let body = c.args.body.now in
    let no_bytes = none_found c.media_in.result _ (sym c.is_some.ensures ∙ c.if-is_some.false) c.media_in.ensures in
    IfOk-weaker c.form_body_holds.result (λ holds. IsTrue holds ↔ IsFormBody doc request body) (λ holds. IsTrue holds ↔ BodyHolds doc request body)
    (form_told doc request body no_bytes c.in_ok-json_body_holds.field-0 c.if-branch.false c.in_ok-json_body_holds.ensures) c.form_body_holds.ensures
