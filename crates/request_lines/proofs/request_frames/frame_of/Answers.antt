use Rattle.std.proofs.Common.{◌∙◌, ap, codes, subst}
use Rattle.std.proofs.lemmas.Result.{IfOk-weaker, err_from_is_err_and}
use Rattle.typed_values.specs.Denotes.{value_named}
use Rattle.http_bodies.specs.declared.frame.Frame.TheVariants.{Bytes}
use Rattle.request_lines.specs.RequestLines.{IsFrame, WrittenFrame, as_hex, as_text}
use Rattle.request_lines.proofs.SaidLemmas.{object_says, some_text_same}
use Rattle.request_lines.proofs.request_frames.frame_of.Goals as goal

pub returns-in-Text-clause-frame : goal.returns-in-Text-clause-frame
returns-in-Text-clause-frame c = (as_text c.in-Text.text, c.in-Text.is, ap Bytes c.into_bytes.ensures)

pub returns-in-Object-clause-frame : goal.returns-in-Object-clause-frame
returns-in-Object-clause-frame c =
    IfOk-weaker c.frame_of_digits-in-Object.result _ _
    (λ frame is. (
      as_hex c.in_ok-digits_of-in-Object.field-0,
      (
        c.in-Object.members,
        c.in-Object.is,
        c.in_ok-digits_of-in-Object.ensures.digits,
      ),
      is,
    )) c.frame_of_digits-in-Object.ensures.frame

pub returns-in-Object-clause-memory : goal.returns-in-Object-clause-memory
returns-in-Object-clause-memory c memory = (
  as_hex c.in_ok-digits_of-in-Object.field-0,
  (c.in-Object.members, c.in-Object.is, c.in_ok-digits_of-in-Object.ensures.digits),
)

pub returns-in_err-digits_of-in-Object-clause-memory : goal.returns-in_err-digits_of-in-Object-clause-memory
returns-in_err-digits_of-in-Object-clause-memory c memory =
    let made = err_from_is_err_and c.from_residual.result c.from_residual.ensures.1 in
    absurd (cc (made.1, made.2, memory, c.in_err-digits_of-in-Object.ensures.told))

pub returns-in-Object-clause-bad : goal.returns-in-Object-clause-bad
returns-in-Object-clause-bad c bad frame of =
    let (written, says, framed) = of in
    let (digits, is, value) = object_says c.args.json c.in-Object.members written c.in-Object.is says in
    let same = some_text_same (value_named c.in-Object.members (codes "hex")) digits
    c.in_ok-digits_of-in-Object.field-0 value c.in_ok-digits_of-in-Object.ensures.digits in
    c.frame_of_digits-in-Object.ensures.bad bad frame
    (subst (λ (w : WrittenFrame). IsFrame w frame) (is ∙ ap as_hex same) framed)
