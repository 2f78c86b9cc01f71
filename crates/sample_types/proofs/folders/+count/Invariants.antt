use Rattle.std.proofs.Common.{◌≡◌, ◌-◌, ◌^◌, map, min, take}
use Rattle.std.specs.Prelude.{sum}
use Rattle.sample_types.specs.Folders.{folder_count}
use Rattle.sample_types.proofs.folders.+count.Given as goal

abbrev pub invariant-counted-loop-folder : goal.invariant-counted-loop-folder
invariant-counted-loop-folder l = l.count ≡ min (sum (map folder_count (take l.folder-index l.folders))) (2 ^ 32 - 1)
