-- How the variables of a path are refused that denote no value of a type: 400 Bad Request (RFC 9110, section 15.5.1), in
-- words of this project.
use Rattle.std.specs.Prelude.{◌≡◌, ⊤, ◌++◌, None, codes}
use Rattle.std.specs.declared.result.Result.TheVariants.{Err}
use Rattle.http_status.specs.Errors.{bad_request}
use Rattle.http_status.specs.declared.error.HttpError.{HttpError}
use Rattle.http_status.specs.declared.refusal.HttpRefusal.{HttpRefusal}
use Rattle.http_status.specs.declared.refusal.HttpRefusal.TheVariants.{Http, OutOfMemory}
use Rattle.typed_values.specs.Denotes.{Told}
use Rattle.typed_values.specs.Faults.{Trouble, fault_of, fault_text}

-- the error of a fault of the variables
abbrev pub path_error : Trouble → HttpError
path_error trouble = bad_request None (codes "bad parameter in URL path: " ++ fault_text (fault_of trouble))

-- the refusal is of the fault that is told, unless memory ran out
abbrev pub IsPathRefusal : Told → HttpRefusal → Type 0
IsPathRefusal told (Http error) = (trouble : Trouble) × (told ≡ Err trouble) × (error ≡ path_error trouble)
IsPathRefusal told OutOfMemory = ⊤
