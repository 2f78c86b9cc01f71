-- What refusals are told as.
use Rattle.std.specs.Prelude.{ℕ, List, ◌++◌, codes}
use Rattle.http.specs.StatusCode.{status_text}
use Rattle.status_codes.specs.declared.errors.InvalidClientErrorStatusCode.{InvalidClientErrorStatusCode}
use Rattle.status_codes.specs.declared.errors.InvalidClientErrorStatusCode.TheVariants as client
use Rattle.status_codes.specs.declared.errors.InvalidErrorStatusCode.{InvalidErrorStatusCode}
use Rattle.status_codes.specs.declared.errors.InvalidErrorStatusCode.TheVariants.{NotAnError, InvalidStatus}

-- as `status code 200 OK is not a 4xx or 5xx error`
abbrev pub not_an_error_text : ℕ → List ℕ
not_an_error_text status =
    codes "status code " ++ status_text status ++ codes " is not a 4xx or 5xx error"

-- as `status code 500 Internal Server Error is not a 4xx client error`
abbrev pub not_a_client_error_text : ℕ → List ℕ
not_a_client_error_text status =
    codes "status code " ++ status_text status ++ codes " is not a 4xx client error"

-- a status that is refused as it is, and what is none
abbrev pub invalid_error_text : InvalidErrorStatusCode → List ℕ
invalid_error_text (NotAnError error) = not_an_error_text error.0
invalid_error_text InvalidStatus = codes "invalid status code"

-- the same of errors by the client
abbrev pub invalid_client_error_text : InvalidClientErrorStatusCode → List ℕ
invalid_client_error_text (client.NotAClientError error) = not_a_client_error_text error.0
invalid_client_error_text client.InvalidStatus = codes "invalid status code"
