use Rattle.std.proofs.Common.{[], ◌∷◌, ◌++◌, ◌∙◌, ap, chars, codes, inl, inr, refl}
use Rattle.std.proofs.lemmas.Result.{on_ok_weaker}
use Rattle.hex.specs.Hex.{encode_lower}
use Rattle.schema_values.specs.declared.json_value.Json.{Object, Text as Words}
use Rattle.schema_values.specs.Member.{member}
use Rattle.schema_values.specs.Print.{quoted}
use Rattle.schema_values.proofs.CallerLemmas.{member_written, no_member_written, object_written}
use Rattle.reply_lines.proofs.writing.write_shown.Goals as goal

pub returns-in-Ok : goal.returns-in-Ok
returns-in-Ok c =
    on_ok_weaker c.write_quoted_str.result (λ is. (
      Words (chars c.args.bytes.now),
      inl (c.in-Ok.ensures.cases.1, refl),
      is ∙ ap (λ text. c.args.out.now ++ quoted (chars text)) c.in-Ok.ensures.cases.0,
    )) c.write_quoted_str.ensures.ok

pub returns-in_ok-write_hex-in-Err : goal.returns-in_ok-write_hex-in-Err
returns-in_ok-write_hex-in-Err c =
    let hex = member (codes "hex") (Words (encode_lower c.args.bytes.now)) in
    let start = c.args.out.now ++ 123 ∷ [] in
    let written =
    member_written [] hex start c.push.new.self c.write_hex.new.out
    (c.in_ok-push-in-Err.ensures.ok ∙ no_member_written start) c.in_ok-write_hex-in-Err.ensures in
    on_ok_weaker c.push-in-Err.result (λ is. (
      Object (hex ∷ []),
      inr (c.in-Err.ensures.cases.0, refl),
      object_written (hex ∷ []) c.args.out.now c.write_hex.new.out c.push-in-Err.new.self written is,
    )) c.push-in-Err.ensures.ok
