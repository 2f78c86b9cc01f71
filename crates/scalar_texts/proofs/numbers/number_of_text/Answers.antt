use Rattle.std.proofs.Common.{rules, sym, ◌∙◌, ap}
use Rattle.std.specs.Str.{chars}
use Rattle.scalar_texts.specs.Texts.{number_or_fault}
use Rattle.scalar_texts.proofs.CutLemmas.{cut_told, number_told}
use Rattle.scalar_texts.proofs.numbers.number_of_text.Goals as goal

pub returns-in-Some : goal.returns-in-Some
returns-in-Some c = number_told c.args.kind c.args.min c.args.max (chars c.args.text.now) _ (search rules) c.number_within.result c.number_within.ensures

pub returns-in-None : goal.returns-in-None
returns-in-None c =
    let text = chars c.args.text.now in
    rw (sym (cut_told c.args.kind c.args.min c.args.max text) ∙ ap (number_or_fault c.args.kind c.args.min c.args.max text) (sym c.in-None.ensures), ← c.kind_name.ensures.name) c.bad_text.ensures
