use Rattle.std.proofs.Common.{sym, arith}
use Rattle.descriptors.specs.Definitions.{listed_name}
use Rattle.typed_values.proofs.Listed.{place_below}
use Rattle.typed_values.proofs.scalars.decode_name.Goals as goal

pub variant-requires : goal.variant-requires
variant-requires c =
    let less = place_below listed_name c.args.names.now c.in-Text.text (c.in-Some.place, c.in-Some.field-0-1.now) (sym c.in-Some.ensures) in
    omega (arith, less, c.requires)
