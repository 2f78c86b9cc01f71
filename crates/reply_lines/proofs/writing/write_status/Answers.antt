use Rattle.std.proofs.Common.{◌++◌, ◌∙◌, ap, codes, decimal, subst, sym}
use Rattle.std.proofs.lemmas.Result.{on_ok_weaker}
use Rattle.http.specs.StatusCode.{IsStatusCode}
use Rattle.schema_values.proofs.CallerLemmas.{value_written}
use Rattle.reply_lines.proofs.ReplyTexts.{status_digits}
use Rattle.reply_lines.proofs.writing.write_status.Goals as goal

pub returns : goal.returns
returns c =
    let status = c.args.status in
    let valid = subst IsStatusCode c.as_u16-code.ensures.value c.as_u16-code.ensures.valid in
    on_ok_weaker c.push_ascii.result (λ is.
    is ∙ ap (λ text. c.write_name.new.out ++ text) (c.as_str.ensures ∙ sym (status_digits status valid))
    ∙ ap (λ out. out ++ decimal status) c.in_ok-write_name.ensures.ok
    ∙ value_written c.args.out.now 1 (codes "status") (decimal status))
    c.push_ascii.ensures.ok
