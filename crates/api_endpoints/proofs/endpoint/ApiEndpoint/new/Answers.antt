use Rattle.std.proofs.Common.{refl}
use Rattle.std.proofs.lemmas.Result.{err_from_is_err_and}
use Rattle.api_endpoints.proofs.Refusals.{made_or_memory, may_be_made, modes_told, nothing_parts}
use Rattle.api_endpoints.proofs.endpoint.ApiEndpoint.new.Goals as goal

pub returns-in_err-body_content_type-clause-refused : goal.returns-in_err-body_content_type-clause-refused
returns-in_err-body_content_type-clause-refused g c =
    let p = err_from_is_err_and c.from_residual.result c.from_residual.ensures.1 in
    rw (p.1, p.2)
    (c.in_err-body_content_type.ensures.refused
    ((goal.RouteHandler-dyn g (c.args.handler.vtable, c.args.handler.value)).shape_of c.args.handler.value))

pub returns-in_err-body_content_type-clause-complete : goal.returns-in_err-body_content_type-clause-complete
returns-in_err-body_content_type-clause-complete g c =
    made_or_memory c.args.content_type.now
    ((goal.RouteHandler-dyn g (c.args.handler.vtable, c.args.handler.value)).shape_of c.args.handler.value)
    c.from_residual.result (returns-in_err-body_content_type-clause-refused g c)

pub returns-in_err-extension_mode-clause-refused : goal.returns-in_err-extension_mode-clause-refused
returns-in_err-extension_mode-clause-refused g c =
    let p = err_from_is_err_and c.from_residual-in_err-extension_mode.result c.from_residual-in_err-extension_mode.ensures.1 in
    rw (p.1, p.2)
    (modes_told c.args.content_type.now
    ((goal.RouteHandler-dyn g (c.args.handler.vtable, c.args.handler.value)).shape_of c.args.handler.value)
    c.in_ok-body_content_type.body_content_type c.in_ok-body_content_type.ensures.kind c.in_err-extension_mode.field-0.0
    (rw c.shape_in-shape.ensures at c.in_err-extension_mode.ensures.incompatible))

pub returns-in_err-extension_mode-clause-complete : goal.returns-in_err-extension_mode-clause-complete
returns-in_err-extension_mode-clause-complete g c =
    made_or_memory c.args.content_type.now
    ((goal.RouteHandler-dyn g (c.args.handler.vtable, c.args.handler.value)).shape_of c.args.handler.value)
    c.from_residual-in_err-extension_mode.result (returns-in_err-extension_mode-clause-refused g c)

pub returns-clause-slots : goal.returns-clause-slots
returns-clause-slots g c =
    let nothing = rw c.shape_in-shape.ensures at c.in_ok-extension_mode.ensures.nothing in
    record {
      parameters = rw c.shape_in-shape.ensures at c.in_ok-extension_mode.ensures.parameters;
      mode = rw c.shape_in-shape.ensures at c.in_ok-extension_mode.ensures.mode;
      no_parameters = λ unlisted. (nothing_parts c.in_ok-extension_mode.field-0 _ refl (nothing unlisted)).0;
      no_mode = λ unlisted. (nothing_parts c.in_ok-extension_mode.field-0 _ refl (nothing unlisted)).1;
    }

pub returns-clause-may : goal.returns-clause-may
returns-clause-may g c =
    may_be_made c.args.content_type.now
    ((goal.RouteHandler-dyn g (c.args.handler.vtable, c.args.handler.value)).shape_of c.args.handler.value)
    c.in_ok-body_content_type.body_content_type c.in_ok-body_content_type.ensures.kind
    (rw c.shape_in-shape.ensures at c.in_ok-extension_mode.ensures.alike)
