use Rattle.std.proofs.Common.{◌≡◌, inl, inr, refl, arith}
use Rattle.std.proofs.lemmas.Result.{err_from_is_err_and}
use Rattle.std.specs.declared.result.Result.TheVariants.{Err}
use Rattle.http_bodies.proofs.CallerLemmas.{called_never}
use Rattle.handler_shapes.specs.BodySlots.{BodyComesLast}
use Rattle.api_endpoints.specs.Endpoints.{shape_at}
use Rattle.endpoint_answers.specs.Exchanges.{IsServable, called}
use Rattle.api_exchanges.proofs.BodyReads.{reached_reads, unreached_reads}
use Rattle.api_exchanges.proofs.Given.{given_from}
use Rattle.api_exchanges.proofs.Reached.{found_all, unless_asked}
use Rattle.api_exchanges.proofs.Sources.{no_fault_yet, reached_from, unreached_from}
use Rattle.api_exchanges.proofs.requests.exchange_from.Goals as goal

-- the request reaches no endpoint
pub returns-in_err-endpoint : goal.returns-in_err-endpoint
returns-in_err-endpoint g c =
    let p = err_from_is_err_and c.from_residual.result c.from_residual.ensures.1 in
    let error = c.in_err-endpoint.field-0.0 in
    let is : c.from_residual.result ≡ Err error = rw (p.1, p.2) refl in
    let call = called c.args.config.now c.args.request.now c.args.store.now in
    record {
      answers = rw is
          (unreached_from (λ e. goal.RouteHandler-dyn g (e.handler.vtable, e.handler.value)) c.args.endpoints.now call
          c.args.budget c.answers_have_causes.ensures c.requires.servable (g.S.FrameSource.state c.args.source.now)
          error c.in_err-endpoint.ensures.unreached);
      fault = λ fault. absurd
          (no_fault_yet
          (λ e. goal.RouteHandler-dyn g (e.handler.vtable, e.handler.value)) c.args.endpoints.now call error
          c.in_err-endpoint.ensures.unreached (rw is at fault));
      counts = λ whole. inr refl;
      untouched = λ none. refl;
      read = rw is
          (unreached_reads (λ e. goal.RouteHandler-dyn g (e.handler.vtable, e.handler.value)) c.args.endpoints.now call
          c.args.budget (g.S.FrameSource.state c.args.source.now).left (g.S.FrameSource.state c.args.source.now).left
          error c.in_err-endpoint.ensures.unreached);
      goes_on = record { later = omega arith; same = refl };
      calls = omega arith;
      called = called_never (g.S.FrameSource.state c.args.source.now).left (g.S.FrameSource.calls c.args.source.now);
    }

-- the endpoint that is reached answers requests
pub extract_from-given-requires-clause-served : goal.extract_from-given-requires-clause-served
extract_from-given-requires-clause-served g c =
    let servable =
    found_all (λ e. IsServable (shape_at (λ e. goal.RouteHandler-dyn g (e.handler.vtable, e.handler.value)) e)) _
    c.args.endpoints.now _ c.requires.servable c.in_ok-endpoint.ensures.reached.named in
    rw c.shape-shape.ensures
    (record { definitions = servable.passes.table; each = servable.passes.slots; last = servable.last })

pub answer-requires-clause-shape : goal.answer-requires-clause-shape
answer-requires-clause-shape g c =
    (found_all (λ e. IsServable (shape_at (λ e. goal.RouteHandler-dyn g (e.handler.vtable, e.handler.value)) e)) _
    c.args.endpoints.now _ c.requires.servable c.in_ok-endpoint.ensures.reached.named).passes

pub answer-requires-clause-fit : goal.answer-requires-clause-fit
answer-requires-clause-fit g c = rw c.shape-shape.ensures at c.extract_from-given.ensures.fits

-- the endpoint answers
pub returns : goal.returns
returns g c =
    let reaches = c.in_ok-endpoint.ensures.reached in
    let e = c.in_ok-endpoint.endpoint.now in
    let request = c.args.request.now in
    let given = c.extract_from-given.result in
    let call = called c.args.config.now request c.args.store.now in
    let servable =
    found_all (λ e. IsServable (shape_at (λ e. goal.RouteHandler-dyn g (e.handler.vtable, e.handler.value)) e)) _
    c.args.endpoints.now e c.requires.servable reaches.named in
    let last : BodyComesLast c.shape-shape.result.now.slots = rw c.shape-shape.ensures servable.last in
    let from = given_from c.shape-shape.result.now c.body_content_type.result.now c.limit_at-limit.result call
    c.args.budget (g.S.FrameSource.state c.args.source.now)
    (g.S.FrameSource.state c.extract_from-given.new.source) c.answers_have_causes.ensures last given
    c.extract_from-given.ensures.came c.extract_from-given.ensures.early c.extract_from-given.ensures.asked in
    let is_given = rw (c.shape-shape.ensures, c.body_content_type.ensures, c.limit_at-limit.ensures) at from in
    record {
      answers =
          reached_from (λ e. goal.RouteHandler-dyn g (e.handler.vtable, e.handler.value)) c.args.endpoints.now call
          c.args.budget c.answers_have_causes.ensures c.requires.servable (g.S.FrameSource.state c.args.source.now)
          (g.S.FrameSource.state c.extract_from-given.new.source) e given c.answer.result c.answer.new.store reaches
          is_given c.answer.ensures.answers c.answer.ensures.handled c.answer.ensures.kept;
      fault = λ fault. c.extract_from-given.ensures.fault (c.answer.ensures.fault fault);
      counts = λ whole.
          elim (c.extract_from-given.ensures.counts (λ fault. whole (c.answer.ensures.cut fault))) [
            | inl streams ↦ inl (e, reaches, rw c.shape-shape.ensures at streams)
            | inr same ↦ inr same
          ];
      untouched =
          unless_asked
          (λ e. goal.RouteHandler-dyn g (e.handler.vtable, e.handler.value)) c.args.endpoints.now request e _
          reaches (rw c.shape-shape.ensures at c.extract_from-given.ensures.unasked)
          (rw c.shape-shape.ensures at c.extract_from-given.ensures.untouched);
      read =
          reached_reads (λ e. goal.RouteHandler-dyn g (e.handler.vtable, e.handler.value)) c.args.endpoints.now call
          c.args.budget (g.S.FrameSource.state c.args.source.now).left
          (g.S.FrameSource.state c.extract_from-given.new.source).left e given c.answer.result reaches
          (rw (c.shape-shape.ensures, c.limit_at-limit.ensures) at c.extract_from-given.ensures.read)
          c.answer.ensures.read;
      goes_on = c.extract_from-given.ensures.goes_on;
      calls = c.extract_from-given.ensures.calls;
      called = c.extract_from-given.ensures.called;
    }
