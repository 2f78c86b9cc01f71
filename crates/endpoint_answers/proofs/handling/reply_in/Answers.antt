use Rattle.std.proofs.Common.{inr, subst}
use Rattle.std.proofs.lemmas.Result.{err_from_is_err_and}
use Rattle.api_respond.specs.Encodes.{Encodes}
use Rattle.api_respond.specs.declared.context.RequestContext.{RequestContext}
use Rattle.api_endpoints.specs.Endpoints.{shape_at, turns_at}
use Rattle.endpoint_answers.specs.Exchanges.{called}
use Rattle.endpoint_answers.proofs.Replied.{lost_reply, may_reply}
use Rattle.endpoint_answers.proofs.handling.reply_in.Goals as goal

-- memory ran out in the handler
pub returns-in_err-reply-clause-lost : goal.returns-in_err-reply-clause-lost
returns-in_err-reply-clause-lost g c = λ config request is.
    let p = err_from_is_err_and c.from_residual.result c.from_residual.ensures.1 in
    let told = rw c.handler-handler.ensures at c.in_err-reply.ensures in
    rw p.1
    (lost_reply (λ e. goal.RouteHandler-dyn g (e.handler.vtable, e.handler.value)) c.args.endpoint.now
    (called config request c.args.store.now) c.args.context.now is c.args.args c.handle.new.store told.1.1.1)

-- memory ran out for the response
pub returns-in_err-response-clause-lost : goal.returns-in_err-response-clause-lost
returns-in_err-response-clause-lost g c = λ config request is.
    let p = err_from_is_err_and c.from_residual-in_err-response.result c.from_residual-in_err-response.ensures.1 in
    let told = rw c.handler-handler.ensures at c.in_ok-reply.ensures in
    rw p.1 (inr (
      c.in_ok-reply.reply,
      may_reply (λ e. goal.RouteHandler-dyn g (e.handler.vtable, e.handler.value)) c.args.endpoint.now
          (called config request c.args.store.now) c.args.context.now is
          c.args.args c.handle.new.store c.in_ok-reply.reply told.0 told.1.0,
    ))

-- the reply is sent
pub returns-clause-sent : goal.returns-clause-sent
returns-clause-sent g c = λ config request is.
    let told = rw c.handler-handler.ensures at c.in_ok-reply.ensures in
    record {
      reply = c.in_ok-reply.reply;
      may =
          may_reply (λ e. goal.RouteHandler-dyn g (e.handler.vtable, e.handler.value)) c.args.endpoint.now
          (called config request c.args.store.now) c.args.context.now is
          c.args.args c.handle.new.store c.in_ok-reply.reply told.0 told.1.0;
      stay = told.1.1.0;
      encodes =
          subst (λ (context : RequestContext). Encodes
          (shape_at (λ e. goal.RouteHandler-dyn g (e.handler.vtable, e.handler.value)) c.args.endpoint.now)
          (turns_at (λ e. goal.RouteHandler-dyn g (e.handler.vtable, e.handler.value)) c.args.endpoint.now)
          c.in_ok-reply.reply context.request_id c.in_ok-response.response c.encode_reply.new.reply)
          is (rw c.handler-handler.ensures at c.in_ok-response.ensures.encodes);
    }
