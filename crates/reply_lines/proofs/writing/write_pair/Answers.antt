use Rattle.std.proofs.Common.{[], ◌∷◌, ◌++◌, ◌∙◌, ap, chars, refl, subst, List, ℕ}
use Rattle.std.proofs.lemmas.Result.{on_ok_weaker}
use Rattle.schema_values.specs.declared.json_value.Json.{List as Items, Text as Words}
use Rattle.schema_values.specs.Print.{compact_of, quoted}
use Rattle.reply_lines.specs.ReplyLines.{IsShownAs}
use Rattle.reply_lines.proofs.ReplyTexts.{pair_text}
use Rattle.reply_lines.proofs.writing.write_pair.Goals as goal

pub returns : goal.returns
returns c =
    let start = c.args.out.now in
    let name = Words (chars c.args.line.now.0) in
    let value = c.in_ok-write_shown.ensures.0 in
    on_ok_weaker c.push-3.result (λ is. (
      Items (name ∷ value ∷ []),
      (
        value,
        subst (λ (bytes : List ℕ). IsShownAs bytes value) c.as_bytes.ensures.value c.in_ok-write_shown.ensures.1,
        refl,
      ),
      is ∙ ap (λ out. out ++ 93 ∷ [])
          (c.in_ok-write_shown.ensures.2 ∙ ap (λ out. out ++ compact_of value) (c.in_ok-push-2.ensures.ok
          ∙ ap (λ out. out ++ 44 ∷ [])
          (c.in_ok-write_quoted_str.ensures.ok
          ∙ ap (λ out. out ++ quoted (chars c.as_str.result.now)) c.in_ok-push.ensures.ok
          ∙ ap (λ text. (start ++ 91 ∷ []) ++ quoted (chars text)) c.as_str.ensures.value)))
          ∙ pair_text start name value,
    )) c.push-3.ensures.ok
