-- How many folders a folder is.
use Rattle.std.specs.Prelude.{ℕ, suc, sum}
use Rattle.own_types.specs.declared.folder.Folder.{Folder}
use Rattle.own_types.specs.declared.folder.Folder.TheOpen.{Folder-F}
use Rattle.own_types.specs.declared.folder.Folder.TheFolds.{fold-Folder}

-- how many folders a folder is, with itself
abbrev pub count_step : Folder-F ℕ → ℕ
count_step folder = suc (sum folder.children)

abbrev pub folder_count : Folder → ℕ
folder_count = fold-Folder ℕ count_step
