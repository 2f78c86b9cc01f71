-- An answer is what is called for, or memory ran out.
use Rattle.std.proofs.Common.{◌≡◌, ◌⊎◌, inl, inr, refl, sym, subst}
use Rattle.std.specs.Prelude.{IsErrAnd, IsErrOf}
use Rattle.std.specs.declared.result.Result.{Result}
use Rattle.std.specs.declared.result.Result.TheVariants.{Ok, Err}
use Rattle.api_extract.specs.declared.extract_error.ExtractError.{ExtractError}
use Rattle.api_extract.specs.declared.extract_error.ExtractError.TheVariants as errors
use Rattle.api_extract.specs.Answers.{IsGiven}
use Rattle.api_extract.specs.Extraction.{ComesTo, IsCutShort, IsOfReading}

pub given_or_ran_out : {T : Type 0} (result exact : Result T ExtractError) → IsGiven result exact
    → (exact ≡ result) ⊎ (result ≡ Err errors.OutOfMemory)
given_or_ran_out (Ok given) exact is = inl is
given_or_ran_out (Err (errors.Refused fault message)) exact is = inl is
given_or_ran_out (Err errors.BodyFault) exact is = inl is
given_or_ran_out (Err (errors.BodyTooLarge sum)) exact is = inl is
given_or_ran_out (Err (errors.FrameBudget count)) exact is = inl is
given_or_ran_out (Err errors.OutOfMemory) exact is = inr refl

pub given_comes : {T : Type 0} (result exact : Result T ExtractError) → IsGiven result exact → ComesTo result exact
given_comes result exact given =
    elim (given_or_ran_out result exact given) [
      | inl is ↦ inr (sym is)
      | inr ran_out ↦ inl (subst IsCutShort (sym ran_out) tt)
    ]

-- no error of reading is told that is not called for
pub given_not_reading : {T : Type 0} (result exact : Result T ExtractError) → IsGiven result exact
    → (IsErrAnd exact IsOfReading → ⊥) → IsErrAnd result IsOfReading → ⊥
given_not_reading {T} result exact given none e =
    elim (given_or_ran_out result exact given) [
      | inl is ↦ none (subst (λ (r : Result T ExtractError). IsErrAnd r IsOfReading) (sym is) e)
      | inr ran_out ↦ subst (λ (r : Result T ExtractError). IsErrAnd r IsOfReading) ran_out e
    ]

-- a fault of the body is one
pub fault_of_reading : {T : Type 0} (result : Result T ExtractError) → IsErrOf result errors.BodyFault
    → IsErrAnd result IsOfReading
fault_of_reading {T} result e = subst (λ (r : Result T ExtractError). IsErrAnd r IsOfReading) (sym e) tt
