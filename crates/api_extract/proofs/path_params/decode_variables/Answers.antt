use Rattle.std.proofs.Common.{subst}
use Rattle.typed_values.specs.declared.fault.DecodeError.{DecodeError}
use Rattle.typed_values.specs.Answer.{IfFault, IsFaultOf}
use Rattle.flat_maps.specs.Flat.{flat_told}
use Rattle.flat_maps.specs.Maps.{map_values}
use Rattle.api_extract.proofs.path_params.decode_variables.Goals as goal

pub returns-in_ok-path_error-in-Err-Fault-clause-refused : goal.returns-in_ok-path_error-in-Err-Fault-clause-refused
returns-in_ok-path_error-in-Err-Fault-clause-refused c =
    let told = flat_told c.args.table.now (map_values (λ value. value) c.args.variables.now) c.args.desc.now in
    let fault = subst (λ (error : DecodeError). IfFault error (IsFaultOf told)) c.in-Err-Fault.field-0-is c.in-Err-Fault.ensures.fault in
    (fault.0, fault.1, c.in_ok-path_error-in-Err-Fault.ensures fault.0 fault.2)
