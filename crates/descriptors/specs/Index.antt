-- The places of a table's definitions in the order of their names.
use Rattle.std.specs.Prelude.{◌≡◌, ◌<◌, ◌≤◌, ℕ, List, [], length, map, slice_index_or, Contains}
use Rattle.std.specs.Cmp.Lexicographic.{slice_cmp}
use Rattle.std.specs.List.{All}
use Rattle.std.specs.List.Sorted.{IsPartitionPoint, IsStrictlySortedBy}
use Rattle.std.specs.Ordering.{nat_cmp}
use Rattle.std.specs.declared.cmp.Ordering.TheVariants.{Less, Greater}
use Rattle.schema_values.specs.Sound.{AreDistinct}
use Rattle.descriptors.specs.declared.table.Definition.{Definition}
use Rattle.descriptors.specs.Definitions.{definition_name}

-- the name of the definition at a place; past the end there is none
abbrev pub name_at : List Definition → ℕ → List ℕ
name_at es place = slice_index_or (map definition_name es) place []

-- the place of each definition, in the order of their names
pub record IsIndex (es : List Definition) (places : List ℕ) : Type 0 where
  pub within : All (λ place. place < length es) places
  pub complete : (place : ℕ) → place < length es → Contains places place
  pub ascending : IsStrictlySortedBy (slice_cmp nat_cmp) (map (name_at es) places)

-- what is true of each table
pub record IsTable (es : List Definition) (places : List ℕ) : Type 0 where
  pub distinct : AreDistinct (map definition_name es)
  pub index : IsIndex es places

-- before the gap names are lesser, and from it on greater
abbrev pub IsGapFor : List Definition → List ℕ → List ℕ → ℕ → Type 0
IsGapFor es places name gap =
    (gap ≤ length places)
    × IsPartitionPoint (λ place. slice_cmp nat_cmp (name_at es place) name ≡ Less) (λ place. slice_cmp nat_cmp (name_at es place) name ≡ Greater) places gap
