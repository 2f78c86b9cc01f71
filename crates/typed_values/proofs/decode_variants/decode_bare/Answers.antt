use Rattle.std.proofs.Common.{sym, arith}
use Rattle.descriptors.specs.Definitions.{variant_name}
use Rattle.typed_values.proofs.Listed.{place_below}
use Rattle.typed_values.proofs.decode_variants.decode_bare.Goals as goal

pub variant-requires : goal.variant-requires
variant-requires c =
    let less = place_below variant_name c.args.variants.now c.args.name.now (c.in-Some-default-None.place, c.in-Some-default-None.field-0-1.now) (sym c.in-Some-default-None.ensures) in
    omega (arith, less, c.requires)
