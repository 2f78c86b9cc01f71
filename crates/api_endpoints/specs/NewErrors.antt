-- What errors of telling the slots of a handler are told as.
use Rattle.endpoint_metadata.specs.declared.mode_error.ModeError.{ModeError}
use Rattle.endpoint_metadata.specs.declared.mode_error.ModeError.TheVariants as modes
use Rattle.api_endpoints.specs.declared.new_error.NewEndpointError.{NewEndpointError}
use Rattle.api_endpoints.specs.declared.new_error.NewEndpointError.TheVariants as refused

-- different names are told as such
abbrev pub mode_refusal : ModeError → NewEndpointError
mode_refusal modes.IncompatibleModes = refused.IncompatibleModes
mode_refusal modes.OutOfMemory = refused.OutOfMemory
