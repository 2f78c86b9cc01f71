use Rattle.std.proofs.Common.{[], ◌∷◌, ◌++◌, ◌∙◌, ap, codes, map}
use Rattle.std.proofs.lemmas.Result.{on_ok_weaker}
use Rattle.schema_values.specs.declared.json_value.Json.{List as Items}
use Rattle.schema_values.specs.Print.{compact_of, joined}
use Rattle.schema_values.proofs.CallerLemmas.{value_written}
use Rattle.reply_lines.proofs.ReplyTexts.{list_text}
use Rattle.reply_lines.proofs.writing.write_headers.Goals as goal

pub returns : goal.returns
returns c =
    let pairs = c.in_ok-write_pairs.ensures.0 in
    on_ok_weaker c.push-2.result (λ is. (
      pairs,
      c.in_ok-write_pairs.ensures.1,
      is ∙ ap (λ out. out ++ 93 ∷ [])
          (c.in_ok-write_pairs.ensures.2 ∙ ap (λ out. out ++ joined (map compact_of pairs)) c.in_ok-push.ensures.ok)
          ∙ list_text c.write_name.new.out pairs
          ∙ ap (λ out. out ++ compact_of (Items pairs)) c.in_ok-write_name.ensures.ok
          ∙ value_written c.args.out.now 2 (codes "headers") (compact_of (Items pairs)),
    )) c.push-2.ensures.ok
