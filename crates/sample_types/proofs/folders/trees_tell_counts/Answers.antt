use Rattle.sample_types.proofs.FolderCounts.{same_tree_count}
use Rattle.sample_types.proofs.folders.trees_tell_counts.Goals as goal

pub returns : goal.returns
returns c = same_tree_count
