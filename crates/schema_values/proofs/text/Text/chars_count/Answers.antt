use Rattle.std.proofs.Common.{length, ap, sym, ◌∙◌}
use Rattle.std.proofs.lemmas.Iterator.{YieldsList-from_chars}
use Rattle.std.proofs.lemmas.Iterator.Consumers.{count_from_yields_List}
use Rattle.schema_values.proofs.text.Text.chars_count.Goals as goal

pub returns : goal.returns
returns c =
    let all = YieldsList-from_chars c.as_str.result.now c.as_str.utf8 c.chars.ensures.rest in
    count_from_yields_List c.chars.result c.count.result c.count.ensures.ran all ∙ ap length (sym c.as_str.ensures)
