use Rattle.std.proofs.Common.{ap, inl, inr, refl}
use Rattle.std.proofs.lemmas.Result.{IfOk-weaker}
use Rattle.std.specs.Prelude.{OnErr, Result, Ok, Err}
use Rattle.contract_tool.proofs.answering.answer_line.Goals as goal

-- a fact, at an error
at_error : {T E Q : Type 0} (r : Result T E) → Q → OnErr r Q
at_error (Ok x) q = tt
at_error (Err y) q = q

pub returns-in-Ok-clause-ok : goal.returns-in-Ok-clause-ok
returns-in-Ok-clause-ok g c =
    IfOk-weaker c.answer_request.result _ _ (λ reply told. inr (record {
      request = c.in-Ok.asked.request;
      frames = c.in-Ok.asked.frames;
      outcome = told.0;
      told = told.1;
      asks_for = c.in-Ok.ensures.asks;
      answers = told.2;
      tells = told.3;
      written = told.4;
    })) c.answer_request.ensures.ok

pub returns-in-Ok-clause-err : goal.returns-in-Ok-clause-err
returns-in-Ok-clause-err g c =
    at_error c.answer_request.result (inr (record {
      request = c.in-Ok.asked.request;
      frames = c.in-Ok.asked.frames;
      outcome = c.answer_request.ensures.err.0;
      asks_for = c.in-Ok.ensures.asks;
      answers = c.answer_request.ensures.err.1;
    }))

pub returns-in-Err-Bad-clause-ok : goal.returns-in-Err-Bad-clause-ok
returns-in-Err-Bad-clause-ok g c =
    IfOk-weaker c.outcome_line.result _ _
    (λ reply is. inl (c.in-Err-Bad.ensures.bad (ap Err c.in-Err-Bad.field-0-is), is, refl)) c.outcome_line.ensures
