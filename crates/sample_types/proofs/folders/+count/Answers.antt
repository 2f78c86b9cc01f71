use Rattle.std.proofs.Common.{arith}
use Rattle.sample_types.proofs.FolderCounts.{folder_count-is}
use Rattle.sample_types.proofs.folders.+count.Goals as goal

pub folder_count-returns : goal.folder_count-returns
folder_count-returns t c =
    let counted = rw c.as_slice.ensures at c.counted.ensures in
    rw (folder_count-is c.args.folder.now) (omega (arith, c.saturating_add.ensures, counted))
