use Rattle.line_session.proofs.Cuts.{cut-none}
use Rattle.line_session.proofs.Limits.{complete, limits, too_long, too_much}
use Rattle.line_session.proofs.ServedBy.{served-none}
use Rattle.line_session.proofs.Whole.{answered, served-at}
use Rattle.line_session.proofs.serving.serve.Goals as goal

pub returns-in_default-clause-served : goal.returns-in_default-clause-served
returns-in_default-clause-served g c = cut-none _ _ _ _ _ _ _ _

pub returns-in_default-clause-calls : goal.returns-in_default-clause-calls
returns-in_default-clause-calls g c = served-none _ _ _ _ _ _ _ _ _ _

pub returns-clause-session : goal.returns-clause-session
returns-clause-session g c is all before left taken =
    answered _ _ _ _ _ _ _ _ _ _ all before (served-at _ _ _ _ _ _ _ _ _ _ _ _ _ c.serve_lines.ensures.served is)
    left taken

pub returns-clause-limits : goal.returns-clause-limits
returns-clause-limits g c all e = limits _ _ _ _ _ _ _ _ _ _ _ _ all c.serve_lines.ensures.served e

pub returns-clause-complete : goal.returns-clause-complete
returns-clause-complete g c all e limit source sink =
    complete _ _ all _ (limits _ _ _ _ _ _ _ _ _ _ _ _ all c.serve_lines.ensures.served e) limit
    (λ r. source (c.serve_lines.ensures.counts.read_fault r)) (λ w. sink (c.serve_lines.ensures.counts.write_fault w))

pub returns-clause-too_long : goal.returns-clause-too_long
returns-clause-too_long g c all e long source sink =
    too_long _ _ all _ (limits _ _ _ _ _ _ _ _ _ _ _ _ all c.serve_lines.ensures.served e) long
    (λ r. source (c.serve_lines.ensures.counts.read_fault r)) (λ w. sink (c.serve_lines.ensures.counts.write_fault w))

pub returns-clause-too_much : goal.returns-clause-too_much
returns-clause-too_much g c all e much source sink =
    too_much _ _ all _ (limits _ _ _ _ _ _ _ _ _ _ _ _ all c.serve_lines.ensures.served e) much
    (λ r. source (c.serve_lines.ensures.counts.read_fault r)) (λ w. sink (c.serve_lines.ensures.counts.write_fault w))
