use Rattle.std.proofs.Common.{rules}
use Rattle.api_types.proofs.Leaves.{number_one, number_at, kind_bounds}
use Rattle.api_types.proofs.number.number_in.Goals as goal

pub unreachable-requires : goal.unreachable-requires
unreachable-requires c = let (n, is, right) = number_one c.args.kind c.args.tree.now c.requires in c.in_default.not-Int n is

pub returns-clause-least : goal.returns-clause-least
returns-clause-least c =
    let within = kind_bounds c.args.kind c.in-Int.number (number_at c.args.kind c.args.tree.now c.in-Int.number c.requires c.in-Int.is) in
    let least = within.0 in search rules

pub returns-clause-greatest : goal.returns-clause-greatest
returns-clause-greatest c =
    let within = kind_bounds c.args.kind c.in-Int.number (number_at c.args.kind c.args.tree.now c.in-Int.number c.requires c.in-Int.is) in
    let greatest = within.1 in search rules
