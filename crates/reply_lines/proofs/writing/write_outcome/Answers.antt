use Rattle.std.proofs.Common.{[], ◌∷◌, ◌++◌, ◌∙◌, ap, codes}
use Rattle.std.proofs.lemmas.Result.{on_ok_weaker}
use Rattle.schema_values.specs.declared.json_value.Json.{Text as Words}
use Rattle.schema_values.specs.Member.{member}
use Rattle.schema_values.specs.PrintMember.{compact_member}
use Rattle.schema_values.proofs.CallerLemmas.{chars-all_ascii, member_written, no_member_written}
use Rattle.reply_lines.specs.ReplyLines.{outcome_member}
use Rattle.reply_lines.proofs.writing.write_outcome.Goals as goal

pub returns : goal.returns
returns c =
    let start = c.args.out.now ++ 123 ∷ [] in
    let outcome = c.args.outcome.now in
    on_ok_weaker c.write_text_member.result (λ is.
    member_written [] (outcome_member outcome) start c.push.new.self c.write_text_member.new.out
    (c.in_ok-push.ensures.ok ∙ no_member_written start)
    (is ∙ ap (λ text. c.push.new.self ++ ([] ++ compact_member (member (codes "outcome") (Words text))))
    (chars-all_ascii outcome c.requires)))
    c.write_text_member.ensures.ok
