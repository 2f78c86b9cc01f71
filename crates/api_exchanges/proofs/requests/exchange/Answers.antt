use Rattle.std.proofs.Common.{◌≡◌, inl, inr, [], Some, refl, arith, subst}
use Rattle.std.proofs.lemmas.Result.{err_from_is_err_and}
use Rattle.std.specs.Prelude.{IsTrue}
use Rattle.std.specs.List.{list_any}
use Rattle.std.specs.declared.result.Result.TheVariants.{Err}
use Rattle.http_bodies.specs.Bodies.{frames_of}
use Rattle.handler_shapes.specs.BodySlots.{BodyComesLast}
use Rattle.api_extract.specs.Denotes.{terms}
use Rattle.api_extract.specs.Extraction.{takes_stream}
use Rattle.api_endpoints.specs.Endpoints.{shape_at}
use Rattle.endpoint_answers.specs.Answering.{IsGivenBy}
use Rattle.endpoint_answers.specs.Exchanges.{IsServable, asked, called}
use Rattle.api_exchanges.proofs.BodyReads.{reached_reads, unreached_reads}
use Rattle.api_exchanges.proofs.Causes.{caused_by}
use Rattle.api_exchanges.proofs.Denoted.{handled_as_denoted}
use Rattle.api_exchanges.proofs.Reached.{found_all, reached_answers, reached_once, unless_asked, unreached_answers}
use Rattle.api_exchanges.proofs.Sources.{no_fault_yet, ok_part}
use Rattle.api_exchanges.proofs.Told.{handled_or_refused}
use Rattle.api_exchanges.proofs.requests.exchange.Goals as goal

-- the request reaches no endpoint
pub returns-in_err-endpoint : goal.returns-in_err-endpoint
returns-in_err-endpoint g c =
    let p = err_from_is_err_and c.from_residual.result c.from_residual.ensures.1 in
    let error = c.in_err-endpoint.field-0.0 in
    let is : c.from_residual.result ≡ Err error = rw (p.1, p.2) refl in
    let call = called c.args.config.now c.args.request.now c.args.store.now in
    let a = asked call c.args.body.now c.args.budget in
    let answers =
    unreached_answers (λ e. goal.RouteHandler-dyn g (e.handler.vtable, e.handler.value)) c.args.endpoints.now a
    error c.in_err-endpoint.ensures.unreached in
    record {
      answers = rw is answers;
      handled = rw is
          (handled_as_denoted (λ e. goal.RouteHandler-dyn g (e.handler.vtable, e.handler.value)) c.args.endpoints.now a
          c.answers_have_causes.ensures c.requires.servable (Err error) c.args.store.now answers);
      told = rw is
          (handled_or_refused (λ e. goal.RouteHandler-dyn g (e.handler.vtable, e.handler.value)) c.args.endpoints.now a
          (Err error) c.args.store.now answers);
      fault = λ fault. absurd
          (no_fault_yet
          (λ e. goal.RouteHandler-dyn g (e.handler.vtable, e.handler.value)) c.args.endpoints.now call error
          c.in_err-endpoint.ensures.unreached (rw is at fault));
      counts = λ whole. inr refl;
      untouched = λ none. refl;
      most = inr (record { came = []; taken = refl; most = omega arith });
      moved = λ was streams. absurd (rw is at was);
      read = rw is
          (unreached_reads (λ e. goal.RouteHandler-dyn g (e.handler.vtable, e.handler.value)) c.args.endpoints.now call
          c.args.budget (Some (frames_of c.args.body.now)) (Some (frames_of c.args.body.now)) error
          c.in_err-endpoint.ensures.unreached);
      calls = omega arith;
      called = omega arith;
    }

-- the endpoint that is reached answers requests
pub extract-given-requires-clause-served : goal.extract-given-requires-clause-served
extract-given-requires-clause-served g c =
    let servable =
    found_all (λ e. IsServable (shape_at (λ e. goal.RouteHandler-dyn g (e.handler.vtable, e.handler.value)) e)) _
    c.args.endpoints.now _ c.requires.servable c.in_ok-endpoint.ensures.reached.named in
    rw c.shape-shape.ensures
    (record { definitions = servable.passes.table; each = servable.passes.slots; last = servable.last })

pub answer-requires-clause-shape : goal.answer-requires-clause-shape
answer-requires-clause-shape g c =
    (found_all (λ e. IsServable (shape_at (λ e. goal.RouteHandler-dyn g (e.handler.vtable, e.handler.value)) e)) _
    c.args.endpoints.now _ c.requires.servable c.in_ok-endpoint.ensures.reached.named).passes

pub answer-requires-clause-fit : goal.answer-requires-clause-fit
answer-requires-clause-fit g c = rw c.shape-shape.ensures at c.extract-given.ensures.fits

-- the endpoint answers
pub returns : goal.returns
returns g c =
    let reaches = c.in_ok-endpoint.ensures.reached in
    let e = c.in_ok-endpoint.endpoint.now in
    let request = c.args.request.now in
    let given = c.extract-given.result in
    let call = called c.args.config.now request c.args.store.now in
    let a = asked call c.args.body.now c.args.budget in
    let shape = c.shape-shape.result.now in
    let on = terms shape.table c.body_content_type.result.now c.limit_at-limit.result c.args.budget in
    let servable =
    found_all (λ e. IsServable (shape_at (λ e. goal.RouteHandler-dyn g (e.handler.vtable, e.handler.value)) e)) _
    c.args.endpoints.now e c.requires.servable reaches.named in
    let last : BodyComesLast shape.slots = rw c.shape-shape.ensures servable.last in
    let extracts : IsGivenBy shape c.body_content_type.result.now c.limit_at-limit.result a given = record {
      comes = c.extract-given.ensures.outcome;
      caused = caused_by c.answers_have_causes.ensures on shape.slots request c.args.body.now last given
          c.extract-given.ensures.outcome;
      early = c.extract-given.ensures.early;
      reading = c.extract-given.ensures.asked;
      fails = λ fault. (c.extract-given.ensures.fault fault).able;
    } in
    let is_given = rw (c.shape-shape.ensures, c.body_content_type.ensures, c.limit_at-limit.ensures) at extracts in
    let answers =
    reached_answers (λ e. goal.RouteHandler-dyn g (e.handler.vtable, e.handler.value)) c.args.endpoints.now a e
    c.answer.result c.answer.new.store reaches (c.answer.ensures.answers a refl is_given) in
    record {
      answers = answers;
      handled =
          handled_as_denoted (λ e. goal.RouteHandler-dyn g (e.handler.vtable, e.handler.value)) c.args.endpoints.now a
          c.answers_have_causes.ensures c.requires.servable c.answer.result c.answer.new.store answers;
      told =
          handled_or_refused (λ e. goal.RouteHandler-dyn g (e.handler.vtable, e.handler.value)) c.args.endpoints.now a
          c.answer.result c.answer.new.store answers;
      fault = λ fault. c.extract-given.ensures.fault (c.answer.ensures.fault fault);
      counts = λ whole.
          elim (c.extract-given.ensures.counts (λ fault. whole (c.answer.ensures.cut fault))) [
            | inl streams ↦ inl (e, reaches, rw c.shape-shape.ensures at streams)
            | inr same ↦ inr same
          ];
      untouched =
          unless_asked
          (λ e. goal.RouteHandler-dyn g (e.handler.vtable, e.handler.value)) c.args.endpoints.now request e _
          reaches (rw c.shape-shape.ensures at c.extract-given.ensures.unasked)
          (rw c.shape-shape.ensures at c.extract-given.ensures.untouched);
      most = elim c.extract-given.ensures.most [
        | inl streamed ↦ inl ((e, reaches, rw c.shape-shape.ensures at streamed.0), streamed.1)
        | inr few ↦ inr few
      ];
      moved = λ was streams.
          let same =
          reached_once
          (λ e. goal.RouteHandler-dyn g (e.handler.vtable, e.handler.value)) c.args.endpoints.now request
          streams.0 e streams.1 reaches in
          let moved = rw c.shape-shape.ensures at c.extract-given.ensures.moved in
          ok_part given (c.answer.ensures.handled was) moved
          (subst (λ e. IsTrue (list_any takes_stream
          (shape_at (λ e. goal.RouteHandler-dyn g (e.handler.vtable, e.handler.value)) e).slots)) same streams.2);
      read =
          reached_reads (λ e. goal.RouteHandler-dyn g (e.handler.vtable, e.handler.value)) c.args.endpoints.now call
          c.args.budget (Some (frames_of c.args.body.now)) (Some (frames_of c.extract-given.new.body)) e given
          c.answer.result reaches (rw (c.shape-shape.ensures, c.limit_at-limit.ensures) at c.extract-given.ensures.read)
          c.answer.ensures.read;
      calls = c.extract-given.ensures.calls;
      called = c.extract-given.ensures.called;
    }
