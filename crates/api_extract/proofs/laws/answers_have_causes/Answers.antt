use Rattle.std.proofs.Common.{sym, subst}
use Rattle.api_extract.specs.Causes.{HasAnswerCause}
use Rattle.api_extract.specs.Denotes.{GivenArgs}
use Rattle.api_extract.proofs.AnswerCauses.{cause_comes, come_cause}
use Rattle.api_extract.proofs.laws.answers_have_causes.Goals as goal

pub returns : goal.returns
returns c terms slots request body given last = (
  λ is. subst (λ (some : GivenArgs). HasAnswerCause terms slots request body some) (sym is)
      (come_cause terms slots request body last),
  cause_comes terms slots request body last given,
)
