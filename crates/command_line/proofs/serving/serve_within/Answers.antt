use Rattle.std.proofs.Common.{ap, ◌∙◌}
use Rattle.command_line.specs.declared.config.ToolStatus.TheVariants.{Done}
use Rattle.command_line.specs.Statuses.{status_of}
use Rattle.command_line.proofs.ServingLemmas.{called_for, ended_so, serving_ends}
use Rattle.command_line.proofs.serving.serve_within.Goals as goal

pub returns-clause-session : goal.returns-clause-session
returns-clause-session g c is =
    c.serve.ensures.session (ended_so c.serve.result c.from.result Done c.from.ensures is)

pub returns-clause-ends : goal.returns-clause-ends
returns-clause-ends g c =
    serving_ends _ _ _ _ _ _ _ _ c.serve.result c.from.result c.from.ensures
    (record {
      served = c.serve.ensures.served;
      calls = c.serve.ensures.calls;
      limits = c.serve.ensures.limits;
    }) c.serve.ensures.read_fault c.serve.ensures.write_fault

pub returns-clause-complete : goal.returns-clause-complete
returns-clause-complete g c all left status calls source sink =
    called_for c.args.config.now all c.serve.result c.from.result status c.from.ensures calls
    (λ limit. c.serve.ensures.complete all left limit source sink)
    (λ long. c.serve.ensures.too_long all left long source sink)
    (λ much. c.serve.ensures.too_much all left much source sink)

pub returns-clause-read_risen : goal.returns-clause-read_risen
returns-clause-read_risen g c more = c.from.ensures ∙ ap status_of (c.serve.ensures.read_risen more)

pub returns-clause-write_risen : goal.returns-clause-write_risen
returns-clause-write_risen g c more = c.from.ensures ∙ ap status_of (c.serve.ensures.write_risen more)
