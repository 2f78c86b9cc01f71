use Rattle.scalar_texts.proofs.Steps.{steps}
use Rattle.scalar_texts.proofs.texts.+tree_of_text.Given as goal

abbrev pub decreases-tree_of_text : goal.decreases-tree_of_text
decreases-tree_of_text l = steps l.table.now l.desc.now
