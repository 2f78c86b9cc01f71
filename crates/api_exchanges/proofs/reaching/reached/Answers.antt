use Rattle.std.proofs.Common.{sym, ◌∙◌, subst}
use Rattle.std.proofs.lemmas.Result.{err_from_is_err_and}
use Rattle.path_templates.specs.Variables.{IsFilledBy}
use Rattle.request_parts.specs.Requests.{Request}
use Rattle.api_exchanges.proofs.Reached.{bad_unreached, named_serves, names_none}
use Rattle.api_exchanges.proofs.reaching.reached.Goals as goal

-- the id may not stand in a header
pub returns-in_err-request_id-clause-unreached : goal.returns-in_err-request_id-clause-unreached
returns-in_err-request_id-clause-unreached g c =
    let p = err_from_is_err_and c.from_residual.result c.from_residual.ensures.1 in
    let bad = c.in_err-request_id.ensures.bad in
    rw (p.1, p.2)
    (bad_unreached (λ e. goal.RouteHandler-dyn g (e.handler.vtable, e.handler.value)) c.args.endpoints.now
    c.args.request.now c.in_err-request_id.field-0.0 bad.0 bad.1)

-- the request names no endpoint
pub returns-in_default-clause-unreached : goal.returns-in_default-clause-unreached
returns-in_default-clause-unreached g c = record {
  id = c.in_ok-request_id.ensures.valid;
  none =
      names_none (λ e. goal.RouteHandler-dyn g (e.handler.vtable, e.handler.value)) c.args.endpoints.now
      c.args.request.now (sym c.in_default.ensures);
}

-- its variables are not those of the template
pub returns-then-not-variables_match-clause-unreached : goal.returns-then-not-variables_match-clause-unreached
returns-then-not-variables_match-clause-unreached g c =
    let filled = rw c.parsed_path.ensures at c.variables_match.ensures in
    record {
      id = c.in_ok-request_id.ensures.valid;
      endpoint = c.in-Some.endpoint.now;
      named = sym c.in-Some.ensures;
      serves =
          named_serves (λ e. goal.RouteHandler-dyn g (e.handler.vtable, e.handler.value)) c.args.endpoints.now
          c.args.request.now c.in-Some.endpoint.now (sym c.in-Some.ensures);
      other = λ has. absurd (cc
          (sym (filled.1 (subst (λ (request : Request). IsFilledBy c.in-Some.endpoint.now.path request.variables)
          (sym c.request.view_is) has)) ∙ c.if-not-variables_match.true));
    }

-- it reaches the endpoint
pub returns-in-Some-request_id-clause-reached : goal.returns-in-Some-request_id-clause-reached
returns-in-Some-request_id-clause-reached g c =
    let filled = rw c.parsed_path.ensures at c.variables_match.ensures in
    record {
      id = c.in_ok-request_id.ensures.valid;
      named = sym c.in-Some.ensures;
      serves =
          named_serves (λ e. goal.RouteHandler-dyn g (e.handler.vtable, e.handler.value)) c.args.endpoints.now
          c.args.request.now c.in-Some.endpoint.now (sym c.in-Some.ensures);
      variables = subst (λ (request : Request). IsFilledBy c.in-Some.endpoint.now.path request.variables)
          c.request.view_is (filled.0 c.if-not-variables_match.false);
    }

-- it reaches the endpoint, but there is no memory for its id
pub returns-in-None-clause-unreached : goal.returns-in-None-clause-unreached
returns-in-None-clause-unreached g c =
    let filled = rw c.parsed_path.ensures at c.variables_match.ensures in (
      c.in-Some.endpoint.now,
      record {
        id = c.in_ok-request_id.ensures.valid;
        named = sym c.in-Some.ensures;
        serves =
            named_serves (λ e. goal.RouteHandler-dyn g (e.handler.vtable, e.handler.value)) c.args.endpoints.now
            c.args.request.now c.in-Some.endpoint.now (sym c.in-Some.ensures);
        variables = subst (λ (request : Request). IsFilledBy c.in-Some.endpoint.now.path request.variables)
            c.request.view_is (filled.0 c.if-not-variables_match.false);
      },
    )
