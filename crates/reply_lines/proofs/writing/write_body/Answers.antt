use Rattle.std.proofs.Common.{◌++◌, ◌∙◌, ap, chars, codes, inl, inr, refl}
use Rattle.std.proofs.lemmas.Result.{on_ok_weaker}
use Rattle.hex.specs.Hex.{encode_lower}
use Rattle.schema_values.specs.declared.json_value.Json.{Text as Words}
use Rattle.schema_values.specs.Member.{member}
use Rattle.schema_values.specs.Print.{comma_before}
use Rattle.schema_values.specs.PrintMember.{compact_member}
use Rattle.reply_lines.proofs.writing.write_body.Goals as goal

pub returns-in-Ok : goal.returns-in-Ok
returns-in-Ok c =
    on_ok_weaker c.write_text_member.result (λ is. (
      member (codes "body") (Words (chars c.args.bytes.now)),
      inl (c.in-Ok.ensures.cases.1, refl),
      is ∙ ap (λ text. c.args.out.now
          ++ (comma_before 3 ++ compact_member (member (codes "body") (Words (chars text))))) c.in-Ok.ensures.cases.0,
    )) c.write_text_member.ensures.ok

pub returns-in-Err : goal.returns-in-Err
returns-in-Err c =
    on_ok_weaker c.write_hex.result
    (λ is. (
      member (codes "body_hex") (Words (encode_lower c.args.bytes.now)),
      inr (c.in-Err.ensures.cases.0, refl),
      is,
    )) c.write_hex.ensures
