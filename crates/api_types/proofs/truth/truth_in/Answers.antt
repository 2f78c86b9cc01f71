use Rattle.api_types.proofs.Leaves.{truth_one}
use Rattle.api_types.proofs.truth.truth_in.Goals as goal

pub unreachable-requires : goal.unreachable-requires
unreachable-requires c = let (b, is) = truth_one c.args.tree.now c.requires in c.in_default.not-Bool b is
