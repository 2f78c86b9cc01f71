use Rattle.std.proofs.Common.{◌≡◌, inl, inr, refl, sym, ap, ◌∙◌, subst}
use Rattle.std.proofs.lemmas.Result.{err_from_is_err_and}
use Rattle.std.specs.Prelude.{is_ok}
use Rattle.std.specs.declared.result.Result.TheVariants.{Ok, Err}
use Rattle.endpoint_answers.specs.Answering.{IsGiven}
use Rattle.endpoint_answers.specs.Exchanges.{Call, EndpointAnswers, called}
use Rattle.endpoint_answers.specs.declared.outcome.ExchangeError.TheVariants.{OutOfMemory}
use Rattle.endpoint_answers.proofs.BodyReads.{reads_by}
use Rattle.endpoint_answers.proofs.Rows.{lost_answers, sent_answers}
use Rattle.endpoint_answers.proofs.answering.answer.Goals as goal

-- memory ran out in a call of the handler, or beside it
pub returns-in_err-handle-in-Ok : goal.returns-in_err-handle-in-Ok
returns-in_err-handle-in-Ok g c =
    let p = err_from_is_err_and c.from_residual.result c.from_residual.ensures.1 in
    let is : c.from_residual.result ≡ Err OutOfMemory = rw (p.1, p.2) refl in
    record {
      answers = λ a same given. rw is
          (lost_answers (λ e. goal.RouteHandler-dyn g (e.handler.vtable, e.handler.value)) c.args.endpoint.now a
          (called c.args.config.now c.args.request.now c.args.store.now) same c.in-Ok.args
          (subst (IsGiven (λ e. goal.RouteHandler-dyn g (e.handler.vtable, e.handler.value)) c.args.endpoint.now a)
          c.in-Ok.is given) c.handle.new.store c.in_err-handle-in-Ok.ensures.lost);
      handled = λ was. absurd (rw is at was);
      kept = inr (ap is_ok c.in-Ok.is);
      read = λ limit budget old new reads. rw is tt;
      fault = λ fault. absurd (rw is at fault);
      cut = λ same. absurd (cc (c.in-Ok.is, same));
      budget = λ count same. absurd (cc (c.in-Ok.is, same));
      handed_on = λ same. absurd (cc (c.in-Ok.is, same));
    }

-- the handler was called
pub returns-in_ok-handle-in-Ok : goal.returns-in_ok-handle-in-Ok
returns-in_ok-handle-in-Ok g c = record {
  answers = λ a same given. sent_answers (λ e. goal.RouteHandler-dyn g (e.handler.vtable, e.handler.value))
      c.args.endpoint.now a (called c.args.config.now c.args.request.now c.args.store.now) same c.in-Ok.args
      (subst (IsGiven (λ e. goal.RouteHandler-dyn g (e.handler.vtable, e.handler.value)) c.args.endpoint.now a)
      c.in-Ok.is given) _ c.handle.new.store c.in_ok-handle-in-Ok.ensures.sent;
  handled = λ was. ap is_ok c.in-Ok.is;
  kept = inr (ap is_ok c.in-Ok.is);
  read = reads_by c.args.given (Ok c.in-Ok.args) c.in-Ok.is;
  fault = λ fault. absurd fault;
  cut = λ same. absurd (cc (c.in-Ok.is, same));
  budget = λ count same. absurd (cc (c.in-Ok.is, same));
  handed_on = λ same. absurd (cc (c.in-Ok.is, same));
}

-- the slots were not given arguments
pub returns-in-Err : goal.returns-in-Err
returns-in-Err g c = record {
  answers = λ a same given. subst (λ (call : Call). EndpointAnswers
      (λ e. goal.RouteHandler-dyn g (e.handler.vtable, e.handler.value)) c.args.endpoint.now a c.refuse.result
      call.store)
      same
      (c.refuse.ensures.answers a (ap (λ (call : Call). call.config) same)
      (ap (λ (call : Call). call.request.request_id) same ∙ sym c.requires.id)
      (subst (IsGiven (λ e. goal.RouteHandler-dyn g (e.handler.vtable, e.handler.value)) c.args.endpoint.now a)
      c.in-Err.is given));
  handled = λ was. absurd (c.refuse.ensures.handled was);
  kept = inl refl;
  read = λ limit budget old new reads.
      c.refuse.ensures.read limit budget old new
      (reads_by c.args.given (Err c.in-Err.error) c.in-Err.is limit budget old new reads);
  fault = λ fault. c.in-Err.is ∙ ap Err (c.refuse.ensures.fault fault);
  cut = λ same. c.refuse.ensures.cut (cc (c.in-Err.is, same));
  budget = λ count same. c.refuse.ensures.budget count (cc (c.in-Err.is, same));
  handed_on = λ same. c.refuse.ensures.handed_on (cc (c.in-Err.is, same));
}
