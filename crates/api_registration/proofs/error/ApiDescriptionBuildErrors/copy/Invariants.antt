use Rattle.std.proofs.Common.{◌≡◌, take}
use Rattle.api_registration.proofs.error.ApiDescriptionBuildErrors.copy.Given as goal

abbrev pub invariant-loop-error : goal.invariant-loop-error
invariant-loop-error l = l.errors ≡ take l.error-index l.self.errors
