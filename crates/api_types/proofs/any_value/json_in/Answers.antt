use Rattle.api_types.proofs.Leaves.{whole_one, whole_at}
use Rattle.api_types.proofs.any_value.json_in.Goals as goal

pub unreachable-requires : goal.unreachable-requires
unreachable-requires c = let (j, is, sound) = whole_one c.args.tree.now c.requires in c.in_default.not-Any j is

pub returns-clause-sound : goal.returns-clause-sound
returns-clause-sound c = whole_at c.args.tree.now c.in-Any.json c.requires c.in-Any.is
