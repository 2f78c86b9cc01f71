use Rattle.std.proofs.Common.{[], ◌∷◌, ◌++◌, ◌∙◌, ap, map}
use Rattle.std.specs.Str.{encode_utf8_all}
use Rattle.schema_values.specs.Print.{joined}
use Rattle.schema_values.specs.PrintMember.{compact_member}
use Rattle.schema_values.proofs.CallerLemmas.{object_written}
use Rattle.reply_lines.specs.ReplyLines.{outcome_member}
use Rattle.reply_lines.proofs.writing.outcome_line.Goals as goal

pub returns : goal.returns
returns c =
    let members = outcome_member c.args.outcome.now ∷ [] in
    c.into_bytes.ensures ∙ ap encode_utf8_all (object_written members [] c.write_outcome.new.out c.push.new.self
    (c.in_ok-write_outcome.ensures
    ∙ ap (λ start. (start ++ 123 ∷ []) ++ joined (map compact_member members)) c.in_ok-out.ensures)
    c.in_ok-push.ensures.ok)
