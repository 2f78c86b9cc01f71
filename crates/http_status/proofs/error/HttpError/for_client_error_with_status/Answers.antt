use Rattle.std.proofs.Common.{◌≡◌, ap, ◌∙◌, chars, refl}
use Rattle.std.proofs.lemmas.Result.{IfOk-weaker}
use Rattle.http.specs.StatusCode.{reason_phrase}
use Rattle.http_status.specs.Errors.{client_error, client_error_phrase}
use Rattle.http_status.proofs.Phrases.{phrase_chars}
use Rattle.http_status.proofs.error.HttpError.for_client_error_with_status.Goals as goal

-- the message has the characters of the phrase
pub returns : goal.returns
returns c =
    let phrase = c.canonical_reason.ensures in
    let message : c.in_ok-message.message ≡ client_error_phrase c.args.status_code =
    c.in_ok-message.ensures ∙ ap (λ text. chars text.now) c.unwrap_or-phrase.ensures
    ∙ phrase_chars _ (reason_phrase c.args.status_code) _ phrase.value phrase.visible refl in
    IfOk-weaker c.for_client_error.result _ _
    (λ error is. is ∙ ap (client_error c.args.error_code c.args.status_code) message) c.for_client_error.ensures
