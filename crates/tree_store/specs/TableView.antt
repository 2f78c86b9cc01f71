-- What a table shows of its map.
use Rattle.std.specs.Prelude.{List, map, string_bytes}
use Rattle.std.specs.declared.alloc.Global.{Global}
use Rattle.std.specs.declared.string.String.{String}
use Rattle.descriptors.specs.declared.tree.Tree.{Tree}
use Rattle.tree_store.specs.Tables.{Pairs}

-- the pairs of the keys' bytes and the trees
abbrev pub pairs_of_entries : List (String Global × Tree) → Pairs
pairs_of_entries entries = map (λ entry. (string_bytes entry.0, entry.1)) entries
