use Rattle.std.proofs.Common.{ℕ, List, Option, Bor, option_map, sym, ◌∙◌, ap}
use Rattle.request_words.specs.declared.pairs.NamedText.{NamedText}
use Rattle.request_words.specs.Pairs.{last_text}
use Rattle.request_words.proofs.Named.{last_at}
use Rattle.request_words.proofs.sorted_pairs.SortedPairs.last_value.Goals as goal

abbrev text_at : Bor NamedText → List ℕ
text_at pair = pair.now.value

pub returns-in-Some : goal.returns-in-Some
returns-in-Some c =
    ap (λ (o : Option (Bor NamedText)). option_map text_at o) c.in-Some.ensures.value
    ∙ sym (last_at text_at c.named.result.now)
    ∙ ap last_text c.named.ensures
