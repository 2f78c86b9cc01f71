-- What an answer says of what is called for: it is that, unless memory ran out.
use Rattle.std.specs.Prelude.{◌≡◌, ⊤, Result}
use Rattle.std.specs.declared.result.Result.TheVariants.{Ok, Err}
use Rattle.descriptors.specs.declared.tree.Tree.{Tree}
use Rattle.typed_values.specs.declared.fault.DecodeError.{DecodeError}
use Rattle.typed_values.specs.declared.fault.DecodeError.TheVariants as decoding
use Rattle.typed_values.specs.Answer.{IsFaultOf}
use Rattle.typed_values.specs.Denotes.{Told}
use Rattle.api_extract.specs.declared.extract_error.ExtractError.{ExtractError}
use Rattle.api_extract.specs.declared.extract_error.ExtractError.TheVariants as errors

-- a tree, or the fault that is told
abbrev pub IsTold : Result Tree DecodeError → Told → Type 0
IsTold (Ok tree) told = told ≡ Ok tree
IsTold (Err (decoding.Fault fault)) told = IsFaultOf told fault
IsTold (Err decoding.OutOfMemory) told = ⊤

-- an argument or all of them, or the error
abbrev pub IsGiven : {T : Type 0} → Result T ExtractError → Result T ExtractError → Type 0
IsGiven (Ok given) exact = exact ≡ Ok given
IsGiven (Err (errors.Refused fault message)) exact = exact ≡ Err (errors.Refused fault message)
IsGiven (Err errors.BodyFault) exact = exact ≡ Err errors.BodyFault
IsGiven (Err (errors.BodyTooLarge sum)) exact = exact ≡ Err (errors.BodyTooLarge sum)
IsGiven (Err (errors.FrameBudget count)) exact = exact ≡ Err (errors.FrameBudget count)
IsGiven (Err errors.OutOfMemory) exact = ⊤
