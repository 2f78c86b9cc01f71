use Rattle.sample_types.proofs.Points.{point_at, point_one}
use Rattle.sample_types.proofs.point.trees_in.Goals as goal

pub unreachable-requires : goal.unreachable-requires
unreachable-requires c = let (ts, is) = point_one c.args.tree.now c.requires in c.in_default.not-Fields ts is

pub returns-clause-fit : goal.returns-clause-fit
returns-clause-fit c = rw c.as_slice.ensures (point_at c.args.tree.now c.in-Fields.trees c.requires c.in-Fields.is)
