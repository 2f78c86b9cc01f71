-- What errors of reading bodies are told as (of this library).
use Rattle.std.specs.Prelude.{ℕ, List, ◌++◌, codes}
use Rattle.std.specs.Fmt.{decimal}
use Rattle.http_status.specs.Texts.{error_text}
use Rattle.body_reading.specs.declared.refusal.StreamRefusal.{StreamRefusal}
use Rattle.body_reading.specs.declared.refusal.StreamRefusal.TheVariants as refused
use Rattle.body_reading.specs.declared.whole.BodyError.{BodyError}
use Rattle.body_reading.specs.declared.whole.BodyError.TheVariants as body

-- why a body was not read whole
abbrev pub body_error_text : BodyError → List ℕ
body_error_text body.BodyFault = codes "reading the body failed"
body_error_text (body.BodyTooLarge sum) = codes "the body is too large: " ++ decimal sum ++ codes " bytes came"
body_error_text (body.FrameBudget count) = codes "more frames than allowed: " ++ decimal count ++ codes " came"
body_error_text body.OutOfMemory = codes "out of memory"

-- why a reader gave no content
abbrev pub stream_refusal_text : StreamRefusal → List ℕ
stream_refusal_text (refused.Fault error) = error_text error
stream_refusal_text (refused.TooLarge error) = error_text error
stream_refusal_text (refused.FrameBudget error) = error_text error
stream_refusal_text refused.Closed = codes "the body is closed"
stream_refusal_text refused.OutOfMemory = codes "out of memory"
