use Rattle.api_types.proofs.Leaves.{character_one, character_at}
use Rattle.api_types.proofs.text.character_in.Goals as goal

pub unreachable-requires : goal.unreachable-requires
unreachable-requires c = let (w, is, one) = character_one c.args.tree.now c.requires in c.in_default.not-Text w is

pub only_character-requires : goal.only_character-requires
only_character-requires c = character_at c.args.tree.now c.in-Text.text c.requires c.in-Text.is
