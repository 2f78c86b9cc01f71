use Rattle.std.proofs.Common.{◌∷◌, ◌++◌, [], ◌∙◌, ap}
use Rattle.endpoint_checks.proofs.names.listed.Goals as goal

pub loop-name-preserved : goal.loop-name-preserved
loop-name-preserved c = c.in_ok-push.ensures.ok ∙ ap (λ names. names ++ c.in-Some.name ∷ []) c.loop-name.invariant
