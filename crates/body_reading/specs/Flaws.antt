-- What is wrong with the body of a request, and the error that tells it: 400 Bad Request (RFC 9110, section 15.5.1).
-- The messages are those of this library.
use Rattle.std.specs.Prelude.{ℕ, List, ◌++◌, None, codes}
use Rattle.std.specs.Fmt.{decimal}
use Rattle.http_status.specs.Errors.{bad_request}
use Rattle.http_status.specs.declared.error.HttpError.{HttpError}
use Rattle.body_reading.specs.declared.flaw.BodyFlaw.{BodyFlaw}
use Rattle.body_reading.specs.declared.flaw.BodyFlaw.TheVariants as flaw

-- the message on a content above this limit
abbrev pub too_large_message : ℕ → List ℕ
too_large_message limit = codes "request body exceeded maximum size of " ++ decimal limit ++ codes " bytes"

-- the message for the client and the log
abbrev pub flaw_message : BodyFlaw → List ℕ
flaw_message flaw.Fault = codes "error streaming request body: fault"
flaw_message (flaw.TooLarge limit) = too_large_message limit
flaw_message flaw.FrameBudget = codes "request body has too many frames"

-- the error that is answered: 400, without a code
abbrev pub flaw_error : BodyFlaw → HttpError
flaw_error wrong = bad_request None (flaw_message wrong)
