use Rattle.std.proofs.Common.{None}
use Rattle.api_types.proofs.Leaves.{words_one}
use Rattle.api_types.proofs.text.text_in.Goals as goal

pub unreachable-requires : goal.unreachable-requires
unreachable-requires c = let (w, is) = words_one None None None c.args.tree.now c.requires in c.in_default.not-Text w is
