use Rattle.std.proofs.Common.{◌↔◌, IsTrue, codes, sym, ◌∙◌}
use Rattle.std.proofs.lemmas.Result.{IfOk-weaker}
use Rattle.openapi_values.specs.Admits.{OperationHolds}
use Rattle.openapi_values.specs.RequestBodies.{BodyHolds}
use Rattle.openapi_values.proofs.CallerLemmas.{found_sound}
use Rattle.request_admission.proofs.Found.{found}
use Rattle.request_admission.proofs.OperationTold.{body_told}
use Rattle.request_admission.proofs.check.operation_holds.Goals as goal

pub body_holds-requires-clause-body : goal.body_holds-requires-clause-body
body_holds-requires-clause-body c = found_sound (codes "requestBody") c.args.operation.now c.in-Some.body.now c.requires.operation (found _ _ _ c.in-Some.is c.get_word.ensures)

pub returns-in-Some : goal.returns-in-Some
returns-in-Some c =
    let doc = c.args.doc.now in
    let request = c.args.request.now in
    let operation = c.args.operation.now in
    let body = c.in-Some.body.now in
    let are_held = sym c.parameters_hold.ensures ∙ c.if-not-parameters_hold.false in
    IfOk-weaker c.body_holds.result (λ holds. IsTrue holds ↔ BodyHolds doc request body) (λ holds. IsTrue holds ↔ OperationHolds doc request operation)
    (body_told doc request operation body are_held (found _ _ _ c.in-Some.is c.get_word.ensures)) c.body_holds.ensures
