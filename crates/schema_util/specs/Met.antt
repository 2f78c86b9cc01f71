-- The names of the definitions on the way to a schema.
use Rattle.std.specs.Prelude.{ℕ, List, [], ◌∷◌, Option, Some, None}
use Rattle.std.specs.Borrow.{Bor}
use Rattle.std.specs.Option.{option_copied}
use Rattle.schema_util.specs.declared.met.Met.{Met}
use Rattle.schema_util.specs.declared.met.Met.TheOpen.{Met-F}
use Rattle.schema_util.specs.declared.met.Met.TheFolds.{fold-Met}

-- one level, where those before stand as a list
abbrev pub with_met : Met-F (List (List ℕ)) → List (List ℕ)
with_met m = elim m.before [ None ↦ m.name.now ∷ [] | Some r ↦ m.name.now ∷ r.now ]

-- the names that were met, the last first
abbrev pub all_met : Option Met → List (List ℕ)
all_met None = []
all_met (Some met) = fold-Met (List (List ℕ)) with_met met

-- the same, of a borrowed chain
abbrev pub names_met : Option (Bor Met) → List (List ℕ)
names_met met = all_met (option_copied met)
