use Rattle.std.proofs.Common.{◌↔◌, IfOk, IsTrue, Option, sym, subst}
use Rattle.std.specs.Prelude.{IsSomeAnd}
use Rattle.schema_values.specs.declared.json_value.Json.{Json}
use Rattle.openapi_values.specs.RequestBodies.{IsJsonOf}
use Rattle.request_admission.proofs.Found.{found}
use Rattle.request_admission.proofs.bodies.json_body_holds.Goals as goal

pub returns-in-Some : goal.returns-in-Some
returns-in-Some c =
    subst (λ (o : Option Json). IfOk c.is_json_of.result (λ holds. IsTrue holds ↔ IsSomeAnd o (IsJsonOf c.args.doc.now c.args.request.now)))
    (sym (found _ _ _ c.in-Some.is c.schema_under.ensures)) c.is_json_of.ensures
