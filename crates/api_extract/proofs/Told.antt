-- Answers as they are told.
use Rattle.std.proofs.Common.{◌≡◌, ℕ, ap}
use Rattle.std.specs.Prelude.{IfOk, IfErr}
use Rattle.std.specs.declared.result.Result.{Result}
use Rattle.std.specs.declared.result.Result.TheVariants.{Ok, Err}
use Rattle.descriptors.specs.declared.tree.Tree.{Tree}
use Rattle.typed_values.specs.declared.fault.DecodeError.{DecodeError}
use Rattle.typed_values.specs.declared.fault.DecodeError.TheVariants as decoding
use Rattle.typed_values.specs.Answer.{IfFault, IsFaultOf}
use Rattle.typed_values.specs.Denotes.{Told}
use Rattle.api_extract.specs.Answers.{IsTold}
use Rattle.api_extract.specs.PageQueries.{as_choice}

-- a decoder's clauses on its answer
pub told_by : (told : Told) (answer : Result Tree DecodeError) → IfOk answer (λ tree. told ≡ Ok tree) → IfErr answer (λ error. IfFault error (IsFaultOf told)) → IsTold answer told
told_by told (Ok tree) is fault = is
told_by told (Err (decoding.Fault f)) is fault = fault
told_by told (Err decoding.OutOfMemory) is fault = tt

-- a fault in a variant is the fault
pub choice_err : (place : ℕ) (told : Told) (error : DecodeError) → IsTold (Err error) told → IsTold (Err error) (as_choice place told)
choice_err place told (decoding.Fault f) is = (is.0, ap (as_choice place) is.1, is.2)
choice_err place told decoding.OutOfMemory is = tt
