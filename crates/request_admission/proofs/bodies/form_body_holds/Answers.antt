use Rattle.std.proofs.Common.{◌↔◌, IfOk, IsTrue, Option, codes, sym, subst}
use Rattle.std.specs.Prelude.{IsSomeAnd}
use Rattle.schema_values.specs.declared.json_value.Json.{Json}
use Rattle.openapi_values.specs.RequestBodies.{IsFormOf}
use Rattle.request_admission.proofs.Found.{found}
use Rattle.request_admission.proofs.SoundOperations.{schema_sound}
use Rattle.request_admission.proofs.bodies.form_body_holds.Goals as goal

pub returns-in-Some : goal.returns-in-Some
returns-in-Some c =
    subst (λ (o : Option Json). IfOk c.is_form_of.result (λ holds. IsTrue holds ↔ IsSomeAnd o (IsFormOf c.args.doc.now c.args.request.now)))
    (sym (found _ _ _ c.in-Some.is c.schema_under.ensures)) c.is_form_of.ensures

pub is_form_of-requires-clause-schema : goal.is_form_of-requires-clause-schema
is_form_of-requires-clause-schema c =
    schema_sound (codes "application/x-www-form-urlencoded") c.args.body.now c.in-Some.schema.now c.requires.body (found _ _ _ c.in-Some.is c.schema_under.ensures)
