-- What the outcome of a request is told as, in a reply line.
use Rattle.std.specs.Prelude.{◌≡◌, ℕ, codes, Result}
use Rattle.std.specs.declared.result.Result.TheVariants.{Ok, Err}
use Rattle.schema_values.specs.declared.json_value.Json.{Json}
use Rattle.reply_lines.specs.ReplyLines.{Shows, outcome_alone}
use Rattle.endpoint_answers.specs.declared.outcome.Exchange.{Exchange}
use Rattle.endpoint_answers.specs.declared.outcome.Exchange.TheVariants.{Handled, Refused}
use Rattle.endpoint_answers.specs.declared.outcome.ExchangeError.{ExchangeError}
use Rattle.endpoint_answers.specs.declared.outcome.ExchangeError.TheVariants as failed

-- one row for each outcome; want of memory is told by no line
abbrev pub Tells : ℕ → Result Exchange ExchangeError → Json → Type 0
Tells budget (Ok (Handled args reply response)) json = Shows budget (codes "handled") response json
Tells budget (Ok (Refused refusal response)) json = Shows budget (codes "refused") response json
Tells budget (Err failed.BadRequestId) json = json ≡ outcome_alone (codes "bad-request-id")
Tells budget (Err failed.NoSuchOperation) json = json ≡ outcome_alone (codes "no-such-operation")
Tells budget (Err failed.WrongVariables) json = json ≡ outcome_alone (codes "wrong-variables")
Tells budget (Err (failed.BodyFault response)) json = Shows budget (codes "body-fault") response json
Tells budget (Err (failed.BodyTooLarge sum response)) json = Shows budget (codes "body-too-large") response json
Tells budget (Err (failed.FrameBudget count)) json = json ≡ outcome_alone (codes "frame-budget")
Tells budget (Err failed.OutOfMemory) json = ⊥
