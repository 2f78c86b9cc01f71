use Rattle.std.specs.Str.{chars}
use Rattle.scalar_texts.proofs.TextFits.{text_fits}
use Rattle.scalar_texts.proofs.texts.decode_text.Goals as goal

pub returns-in-Ok-clause-fits : goal.returns-in-Ok-clause-fits
returns-in-Ok-clause-fits c = text_fits c.args.table.now c.args.desc.now (chars c.args.text.now) c.in-Ok.tree c.requires.table c.in-Ok.ensures
