-- How many steps are left at one value.
use Rattle.std.specs.Prelude.{ℕ, ◌+◌, sum, map}
use Rattle.openapi_values.specs.declared.room.Steps.{Steps}
use Rattle.openapi_values.specs.declared.room.Steps.TheOpen.{Steps-F}
use Rattle.openapi_values.specs.declared.room.Steps.TheFolds.{fold-Steps}
use Rattle.openapi_values.specs.Room.{values}
use Rattle.openapi_values.specs.ValuesOfMembers.{member_values}

-- one level, where those after stand as their number
abbrev pub left_at : Steps-F ℕ → ℕ
left_at Steps-F.End = 0
left_at (Steps-F.Items first later after) = values first.now + sum (map values later.now) + after.now
left_at (Steps-F.Members first later after) = member_values first.now + sum (map member_values later.now) + after.now

unfoldable pub left : Steps → ℕ
left = fold-Steps ℕ left_at
