use Rattle.own_types.proofs.Colors.{color_one, color_at}
use Rattle.own_types.proofs.color.place_in.Goals as goal

pub unreachable-requires : goal.unreachable-requires
unreachable-requires c = let (i, s, is) = color_one c.args.tree.now c.requires in c.in_default.not-Variant i s is

pub returns-clause-is : goal.returns-clause-is
returns-clause-is c = (color_at c.args.tree.now c.in-Variant.place c.in-Variant.field-1 c.requires c.in-Variant.is).1

pub returns-clause-below : goal.returns-clause-below
returns-clause-below c = (color_at c.args.tree.now c.in-Variant.place c.in-Variant.field-1 c.requires c.in-Variant.is).0
