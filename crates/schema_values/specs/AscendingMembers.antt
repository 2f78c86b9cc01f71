-- When the members of an object stand in ascending order, at every level.
use Rattle.std.specs.Prelude.{◌≡◌, List, map}
use Rattle.std.specs.Cmp.Lexicographic.{slice_cmp}
use Rattle.std.specs.List.{AllByRecursion}
use Rattle.std.specs.List.Sorted.{IsStrictlySortedBy}
use Rattle.std.specs.Ordering.{nat_cmp}
use Rattle.std.specs.declared.cmp.Ordering.TheVariants.{Less}
use Rattle.schema_values.specs.declared.json_value.Member.{Member}
use Rattle.schema_values.specs.Ascending.{IsAscending}
use Rattle.schema_values.specs.Member.{name_of, value_of}

-- in the value of a member each object is in order
abbrev pub HasAscendingValue : Member → Type 0
HasAscendingValue member = IsAscending (value_of member)

-- the members ascend by name, and so do those of each object in their values
abbrev pub HasAscendingMembers : List Member → Type 0
HasAscendingMembers members = AllByRecursion HasAscendingValue members × IsStrictlySortedBy (slice_cmp nat_cmp) (map name_of members)

-- the member's name stands before the other's
abbrev pub Precedes : Member → Member → Type 0
Precedes member other = slice_cmp nat_cmp (name_of member) (name_of other) ≡ Less
