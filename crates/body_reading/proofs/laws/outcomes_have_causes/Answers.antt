use Rattle.std.proofs.Common.{List, Result, subst, sym, ℕ}
use Rattle.body_reading.specs.declared.whole.BodyError.{BodyError}
use Rattle.body_reading.specs.Whole.{HasCause}
use Rattle.body_reading.proofs.Outcomes.{cause_whole, whole_cause}
use Rattle.body_reading.proofs.laws.outcomes_have_causes.Goals as goal

pub returns : goal.returns
returns c limit budget frames result = (
  λ is. subst (λ (r : Result (List ℕ) BodyError). HasCause limit budget frames r) (sym is) (whole_cause limit budget frames),
  cause_whole limit budget frames result,
)
