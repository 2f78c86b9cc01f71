use Rattle.std.proofs.Common.{sym, arith}
use Rattle.std.specs.Str.{chars}
use Rattle.descriptors.specs.Definitions.{listed_name}
use Rattle.scalar_texts.proofs.Listed.{place_below}
use Rattle.scalar_texts.proofs.scalars.name_of_text.Goals as goal

pub overflow_cast-result : goal.overflow_cast-result
overflow_cast-result c =
    let less = place_below listed_name 0 c.args.names.now (chars c.args.text.now) (c.in-Some.place, c.in-Some.field-0-1.now) (sym c.in-Some.ensures) in
    omega (arith, less, c.requires)
