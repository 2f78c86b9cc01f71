use Rattle.std.proofs.Common.{◌≡◌, ◌∙◌, ap, sym}
use Rattle.schema_values.proofs.CallerLemmas.{chars-all_ascii}
use Rattle.schema_values.specs.declared.json_value.Json.{out-Json, Text as Words}
use Rattle.schema_values.specs.declared.json_value.Json.TheOpen.{Json-F}
use Rattle.schema_values.specs.declared.json_value.Json.TheVariants.{outs-Text}
use Rattle.page_tokens.proofs.form.is_text.Goals as goal

pub returns-in-Text : goal.returns-in-Text
returns-in-Text c =
    let same = chars-all_ascii c.args.text.now c.requires in (
      λ is. c.in-Text.is ∙ ap Words (c.equals_str.ensures.0 is ∙ same),
      λ e.
          let levels : Json-F.Text c.in-Text.words ≡ Json-F.Text c.args.text.now = sym (outs-Text c.in-Text.words) ∙ ap out-Json (sym c.in-Text.is ∙ e) ∙ outs-Text c.args.text.now in
          let words : c.in-Text.words ≡ c.args.text.now = cc levels in
          c.equals_str.ensures.1 (words ∙ sym same),
    )
