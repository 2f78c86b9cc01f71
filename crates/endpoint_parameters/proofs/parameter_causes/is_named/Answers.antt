use Rattle.endpoint_parameters.proofs.ParameterNames.{used_later}
use Rattle.endpoint_parameters.proofs.parameter_causes.is_named.Goals as goal

pub loop-parameter-preserved : goal.loop-parameter-preserved
loop-parameter-preserved c =
    let later = used_later c.args.place c.args.name.now c.args.parameters.now c.loop-parameter.parameter-index c.parameter-item.result in
    let on = later c.loop-parameter-test.true c.parameter-item.is (λ here. cc (c.if-is_called.ensures.1 here)) in
    (λ used. on.0 (c.loop-parameter.invariant.0 used), λ used. c.loop-parameter.invariant.1 (on.1 used))
