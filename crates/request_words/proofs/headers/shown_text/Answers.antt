use Rattle.std.proofs.Common.{option_map, chars, sym, ap, ◌∙◌}
use Rattle.request_words.proofs.ShownTexts.{text_shown}
use Rattle.request_words.proofs.headers.shown_text.Goals as goal

pub returns-then-all_shown : goal.returns-then-all_shown
returns-then-all_shown c =
    ap (option_map (λ text. chars text.now)) c.ok.ensures.value
    ∙ text_shown c.args.value.now c.from_utf8.result _ (sym c.all_shown.ensures ∙ c.if-all_shown.true) c.from_utf8.ensures.cases
