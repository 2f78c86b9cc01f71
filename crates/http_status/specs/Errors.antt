-- Errors as they are made, without header lines. The statuses and their reason phrases are those of RFC 9110,
-- section 15.
use Rattle.std.specs.Prelude.{ℕ, List, Option, Some, None, codes, unwrap_or}
use Rattle.http.specs.StatusCode.{reason_phrase}
use Rattle.http_status.specs.declared.error.HttpError.{HttpError}

-- an error by the client, with one message for the client and the log
abbrev pub client_error : Option (List ℕ) → ℕ → List ℕ → HttpError
client_error error_code status message = record {
  status_code = status;
  error_code = error_code;
  external_message = message;
  internal_message = message;
  headers = None;
}

-- 400 Bad Request
abbrev pub bad_request : Option (List ℕ) → List ℕ → HttpError
bad_request error_code message = client_error error_code 400 message

-- what the client is told of a status, where no message is given
abbrev pub client_error_phrase : ℕ → List ℕ
client_error_phrase status = unwrap_or (reason_phrase status) (codes "Client Error")

-- 500, with a message for the log alone
abbrev pub internal_error : List ℕ → HttpError
internal_error internal_message = record {
  status_code = 500;
  error_code = Some (codes "Internal");
  external_message = codes "Internal Server Error";
  internal_message = internal_message;
  headers = None;
}

-- 503, with a message for the log alone
abbrev pub unavailable : Option (List ℕ) → List ℕ → HttpError
unavailable error_code internal_message = record {
  status_code = 503;
  error_code = error_code;
  external_message = codes "Service Unavailable";
  internal_message = internal_message;
  headers = None;
}

-- 404, with a message for the log alone
abbrev pub not_found : Option (List ℕ) → List ℕ → HttpError
not_found error_code internal_message = record {
  status_code = 404;
  error_code = error_code;
  external_message = codes "Not Found";
  internal_message = internal_message;
  headers = None;
}
