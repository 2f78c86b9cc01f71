use Rattle.std.proofs.Common.{◌≡◌, inl, None, refl, sym, ap, ◌∙◌, subst}
use Rattle.std.proofs.lemmas.Result.{err_from_is_err_and}
use Rattle.std.specs.declared.result.Result.TheVariants.{Err}
use Rattle.body_reading.specs.Flaws.{flaw_error}
use Rattle.body_reading.specs.declared.flaw.BodyFlaw.TheVariants as flaw
use Rattle.http_status.specs.Errors.{bad_request}
use Rattle.request_parts.specs.declared.config.ServerConfig.{ServerConfig}
use Rattle.api_extract.specs.declared.extract_error.ExtractError.{ExtractError}
use Rattle.api_extract.specs.declared.extract_error.ExtractError.TheVariants as errors
use Rattle.endpoint_answers.specs.Answering.{IsGiven}
use Rattle.endpoint_answers.specs.Exchanges.{limit_at}
use Rattle.endpoint_answers.specs.declared.outcome.ExchangeError.TheVariants.{OutOfMemory}
use Rattle.endpoint_answers.proofs.BodyReads.{reads_by}
use Rattle.endpoint_answers.proofs.Rows.{faulty_answers, large_answers, many_answers, refused_answers, refuses_by}
use Rattle.endpoint_answers.proofs.answering.refuse.Goals as goal

-- memory ran out for the error
pub returns-in_err-error-in-Refused : goal.returns-in_err-error-in-Refused
returns-in_err-error-in-Refused g c =
    let p = err_from_is_err_and c.from_residual.result c.from_residual.ensures.1 in
    let is : c.from_residual.result ≡ Err OutOfMemory = rw (p.1, p.2) refl in
    record {
      answers = λ a config id given. rw is (inl refl);
      handled = λ was. rw is at was;
      read = λ limit budget old new reads. rw is tt;
      fault = λ fault. absurd (rw is at fault);
      cut = λ same. absurd (cc (c.in-Refused.is, same));
      budget = λ count same. absurd (cc (c.in-Refused.is, same));
      handed_on = λ same. absurd (cc (c.in-Refused.is, same));
    }

-- memory ran out for its response
pub returns-in_err-response-in-Refused : goal.returns-in_err-response-in-Refused
returns-in_err-response-in-Refused g c =
    let p = err_from_is_err_and c.from_residual-in_err-response-in-Refused.result
    c.from_residual-in_err-response-in-Refused.ensures.1 in
    let is : c.from_residual-in_err-response-in-Refused.result ≡ Err OutOfMemory = rw (p.1, p.2) refl in
    record {
      answers = λ a config id given. rw is (inl refl);
      handled = λ was. rw is at was;
      read = λ limit budget old new reads. rw is tt;
      fault = λ fault. absurd (rw is at fault);
      cut = λ same. absurd (cc (c.in-Refused.is, same));
      budget = λ count same. absurd (cc (c.in-Refused.is, same));
      handed_on = λ same. absurd (cc (c.in-Refused.is, same));
    }

-- a slot is given nothing
pub returns-in_ok-response-in-Refused : goal.returns-in_ok-response-in-Refused
returns-in_ok-response-in-Refused g c = record {
  answers =
      λ a config id given. refused_answers
      (λ e. goal.RouteHandler-dyn g (e.handler.vtable, e.handler.value)) c.args.endpoint.now a
      c.in-Refused.fault c.in-Refused.message c.in_ok-response-in-Refused.response
      (subst (λ (error : ExtractError). IsGiven
      (λ e. goal.RouteHandler-dyn g (e.handler.vtable, e.handler.value)) c.args.endpoint.now a (Err error))
      c.in-Refused.is given)
      (refuses_by
      (λ e. goal.RouteHandler-dyn g (e.handler.vtable, e.handler.value)) c.args.endpoint.now a c.args.request_id.now
      id
      (bad_request None c.in-Refused.message) c.in_ok-error-in-Refused.error c.in_ok-error-in-Refused.ensures
      c.in_ok-response-in-Refused.response c.in_ok-response-in-Refused.ensures);
  handled = λ was. was;
  read =
      reads_by (Err c.args.error) (Err (errors.Refused c.in-Refused.fault c.in-Refused.message))
      (ap Err c.in-Refused.is);
  fault = λ fault. absurd fault;
  cut = λ same. absurd (cc (c.in-Refused.is, same));
  budget = λ count same. absurd (cc (c.in-Refused.is, same));
  handed_on = λ same. absurd (cc (c.in-Refused.is, same));
}

-- memory ran out for the response to a fault
pub returns-in_err-response-in-BodyFault : goal.returns-in_err-response-in-BodyFault
returns-in_err-response-in-BodyFault g c =
    let p = err_from_is_err_and c.from_residual-in_err-response-in-BodyFault.result
    c.from_residual-in_err-response-in-BodyFault.ensures.1 in
    let is : c.from_residual-in_err-response-in-BodyFault.result ≡ Err OutOfMemory = rw (p.1, p.2) refl in
    record {
      answers = λ a config id given. rw is (inl refl);
      handled = λ was. rw is at was;
      read = λ limit budget old new reads. rw is tt;
      fault = λ fault. absurd (rw is at fault);
      cut = λ same. rw is tt;
      budget = λ count same. absurd (cc (c.in-BodyFault.is, same));
      handed_on = λ same. absurd (cc (c.in-BodyFault.is, same));
    }

-- a call on the body failed
pub returns-in_ok-response-in-BodyFault : goal.returns-in_ok-response-in-BodyFault
returns-in_ok-response-in-BodyFault g c = record {
  answers =
      λ a config id given. faulty_answers
      (λ e. goal.RouteHandler-dyn g (e.handler.vtable, e.handler.value)) c.args.endpoint.now a
      c.in_ok-response-in-BodyFault.response
      (subst (λ (error : ExtractError). IsGiven
      (λ e. goal.RouteHandler-dyn g (e.handler.vtable, e.handler.value)) c.args.endpoint.now a (Err error))
      c.in-BodyFault.is given)
      (refuses_by
      (λ e. goal.RouteHandler-dyn g (e.handler.vtable, e.handler.value)) c.args.endpoint.now a c.args.request_id.now
      id
      (flaw_error flaw.Fault) (flaw_error flaw.Fault) refl
      c.in_ok-response-in-BodyFault.response c.in_ok-response-in-BodyFault.ensures);
  handled = λ was. was;
  read = reads_by (Err c.args.error) (Err errors.BodyFault) (ap Err c.in-BodyFault.is);
  fault = λ fault. c.in-BodyFault.is;
  cut = λ same. tt;
  budget = λ count same. absurd (cc (c.in-BodyFault.is, same));
  handed_on = λ same. absurd (cc (c.in-BodyFault.is, same));
}

-- memory ran out for the response to a size
pub returns-in_err-response-in-BodyTooLarge : goal.returns-in_err-response-in-BodyTooLarge
returns-in_err-response-in-BodyTooLarge g c =
    let p = err_from_is_err_and c.from_residual-in_err-response-in-BodyTooLarge.result
    c.from_residual-in_err-response-in-BodyTooLarge.ensures.1 in
    let is : c.from_residual-in_err-response-in-BodyTooLarge.result ≡ Err OutOfMemory = rw (p.1, p.2) refl in
    record {
      answers = λ a config id given. rw is (inl refl);
      handled = λ was. rw is at was;
      read = λ limit budget old new reads. rw is tt;
      fault = λ fault. absurd (rw is at fault);
      cut = λ same. absurd (cc (c.in-BodyTooLarge.is, same));
      budget = λ count same. absurd (cc (c.in-BodyTooLarge.is, same));
      handed_on = λ same. absurd (cc (c.in-BodyTooLarge.is, same));
    }

-- the content is above the limit
pub returns-in_ok-response-in-BodyTooLarge : goal.returns-in_ok-response-in-BodyTooLarge
returns-in_ok-response-in-BodyTooLarge g c = record {
  answers =
      λ a config id given. large_answers
      (λ e. goal.RouteHandler-dyn g (e.handler.vtable, e.handler.value)) c.args.endpoint.now a
      c.in-BodyTooLarge.sum c.in_ok-response-in-BodyTooLarge.response
      (subst (λ (error : ExtractError). IsGiven
      (λ e. goal.RouteHandler-dyn g (e.handler.vtable, e.handler.value)) c.args.endpoint.now a (Err error))
      c.in-BodyTooLarge.is given)
      (refuses_by
      (λ e. goal.RouteHandler-dyn g (e.handler.vtable, e.handler.value)) c.args.endpoint.now a c.args.request_id.now
      id
      (flaw_error (flaw.TooLarge (limit_at c.args.endpoint.now a.call.config)))
      (flaw_error (flaw.TooLarge c.limit_at.result))
      (ap (λ limit. flaw_error (flaw.TooLarge limit))
      (c.limit_at.ensures ∙ ap (λ (config : ServerConfig). limit_at c.args.endpoint.now config) (sym config)))
      c.in_ok-response-in-BodyTooLarge.response c.in_ok-response-in-BodyTooLarge.ensures);
  handled = λ was. was;
  read = reads_by (Err c.args.error) (Err (errors.BodyTooLarge c.in-BodyTooLarge.sum)) (ap Err c.in-BodyTooLarge.is);
  fault = λ fault. absurd fault;
  cut = λ same. absurd (cc (c.in-BodyTooLarge.is, same));
  budget = λ count same. absurd (cc (c.in-BodyTooLarge.is, same));
  handed_on = λ same. absurd (cc (c.in-BodyTooLarge.is, same));
}

-- there are more frames than the budget
pub returns-in-FrameBudget : goal.returns-in-FrameBudget
returns-in-FrameBudget g c = record {
  answers =
      λ a config id given. many_answers
      (λ e. goal.RouteHandler-dyn g (e.handler.vtable, e.handler.value)) c.args.endpoint.now a
      c.in-FrameBudget.count
      (subst (λ (error : ExtractError). IsGiven
      (λ e. goal.RouteHandler-dyn g (e.handler.vtable, e.handler.value)) c.args.endpoint.now a (Err error))
      c.in-FrameBudget.is given);
  handled = λ was. was;
  read = reads_by (Err c.args.error) (Err (errors.FrameBudget c.in-FrameBudget.count)) (ap Err c.in-FrameBudget.is);
  fault = λ fault. absurd fault;
  cut = λ same. absurd (cc (c.in-FrameBudget.is, same));
  budget = λ count same. cc (c.in-FrameBudget.is, same);
  handed_on = λ same. absurd (cc (c.in-FrameBudget.is, same));
}

-- memory ran out for the arguments
pub returns-in-OutOfMemory : goal.returns-in-OutOfMemory
returns-in-OutOfMemory g c = record {
  answers = λ a config id given. inl refl;
  handled = λ was. was;
  read = λ limit budget old new reads. tt;
  fault = λ fault. absurd fault;
  cut = λ same. tt;
  budget = λ count same. absurd (cc (c.in-OutOfMemory.is, same));
  handed_on = λ same. refl;
}
