use Rattle.openapi_values.proofs.Steps.{admits-zero, admits-suc}
use Rattle.openapi_values.proofs.laws.admits_by_steps.Goals as goal

pub returns : goal.returns
returns c = record { none = admits-zero; step = admits-suc }
