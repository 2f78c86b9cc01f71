use Rattle.std.proofs.Common.{ap, ◌∙◌}
use Rattle.endpoint_parameters.proofs.Firsts.{none_not_first}
use Rattle.endpoint_parameters.proofs.told.tell_first.Goals as goal

pub returns-in_ok-tell-in-Some-clause-told : goal.returns-in_ok-tell-in-Some-clause-told
returns-in_ok-tell-in-Some-clause-told g c =
    (c.in-Some.parameter.now, c.in-Some.ensures.first, c.in_ok-tell-in-Some.ensures ∙ ap (g.C.ParameterCause.text c.args.cause.now) c.name.ensures)

pub returns-in-None-clause-told : goal.returns-in-None-clause-told
returns-in-None-clause-told g c = λ message told. none_not_first (g.C.Condition.Holds c.args.cause.now) c.args.parameters.now told.0 c.in-None.ensures.first told.1
