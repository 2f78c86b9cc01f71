-- What conversions to codes of a range answer, exactly by what they are asked of.
use Rattle.std.specs.Prelude.{◌≡◌, ◌↔◌, ℕ, List, Result, IsErrOf, IsOk, IfOk, OkIff}
use Rattle.http.specs.StatusCode.{IsCodeText, IsStatusCode, code_digits}
use Rattle.status_codes.specs.Ranges.{IsOutside, IsTextOf}
use Rattle.status_codes.specs.declared.errors.InvalidClientErrorStatusCode.{InvalidClientErrorStatusCode}
use Rattle.status_codes.specs.declared.errors.InvalidClientErrorStatusCode.TheVariants.{NotAClientError}
use Rattle.status_codes.specs.declared.errors.InvalidErrorStatusCode.{InvalidErrorStatusCode}
use Rattle.status_codes.specs.declared.errors.InvalidErrorStatusCode.TheVariants.{NotAnError}

-- the refusal of a status that is no code of an error
abbrev pub not_an_error : ℕ → InvalidErrorStatusCode
not_an_error status = NotAnError (record { 0 = status })

-- the refusal of a status that is no code of an error by the client
abbrev pub not_a_client_error : ℕ → InvalidClientErrorStatusCode
not_a_client_error status = NotAClientError (record { 0 = status })

-- of a number: itself where it lies in the range, else that it is a status outside of it, or none at all
abbrev pub NumberGives : {E : Type 0} → (ℕ → Type 0) → (ℕ → E) → E → ℕ → Result ℕ E → Type 0
NumberGives Range outside invalid number result =
    OkIff result (Range number) number
    × (IsErrOf result (outside number) ↔ IsOutside Range number)
    × (IsErrOf result invalid ↔ ¬ IsStatusCode number)

-- of bytes: the code in the range whose digits they are, else the status outside of it whose digits they are,
-- or that they are those of none
abbrev pub TextGives : {E : Type 0} → (ℕ → Type 0) → (ℕ → E) → E → List ℕ → Result ℕ E → Type 0
TextGives Range outside invalid bytes result =
    IfOk result (λ code. bytes ≡ code_digits code)
    × (IsOk result ↔ IsTextOf Range bytes)
    × ((n : ℕ) → IsErrOf result (outside n) ↔ (IsOutside Range n × (bytes ≡ code_digits n)))
    × (IsErrOf result invalid ↔ ¬ IsCodeText bytes)
