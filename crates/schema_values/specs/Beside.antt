-- A fold over a JSON value in which each smaller value stands beside what is made of it.
use Rattle.std.specs.Prelude.{map}
use Rattle.schema_values.specs.declared.json_value.Json.{Json, Null, Bool, Int, Text, List as ListOf, Object}
use Rattle.schema_values.specs.declared.json_value.Json.TheOpen.{Json-F, Member-F}
use Rattle.schema_values.specs.declared.json_value.Json.TheFolds.{fold-Json}
use Rattle.schema_values.specs.declared.json_value.Member.{Member}

-- a value, and what is made of it
pub record Beside (X : Type 0) : Type 0 where
  pub value : Json
  pub made : X

-- a member whose value stands so
abbrev pub MemberBeside : Type 0 → Type 0
MemberBeside X = Member-F (Beside X) (Unit {0})

-- one level of a value, where each smaller value stands so
abbrev pub LevelBeside : Type 0 → Type 0
LevelBeside X = Json-F (Beside X) (MemberBeside X)

-- the value alone
abbrev pub value_beside : {X : Type 0} → Beside X → Json
value_beside x = x.value

-- the member alone
abbrev pub member_beside : {X : Type 0} → MemberBeside X → Member
member_beside m = record { name = m.name; value = m.value.value }

-- the value of one level
abbrev pub value_of_level : {X : Type 0} → LevelBeside X → Json
value_of_level Json-F.Null = Null
value_of_level (Json-F.Bool b) = Bool b
value_of_level (Json-F.Int n) = Int n
value_of_level (Json-F.Text t) = Text t
value_of_level (Json-F.List xs) = ListOf (map value_beside xs)
value_of_level (Json-F.Object ms) = Object (map member_beside ms)

-- a member of one level
abbrev pub same_member : {X : Type 0} → Member-F (Beside X) (MemberBeside X) → MemberBeside X
same_member m = record { name = m.name; value = m.value }

-- one level: its value, and what a step makes of it
abbrev pub level_beside : {X : Type 0} → (Json → LevelBeside X → X) → LevelBeside X → Beside X
level_beside step level = record { value = value_of_level level; made = step (value_of_level level) level }

-- what the steps make of a whole value, the smaller values first
unfoldable pub made_of : {X : Type 0} → (Json → LevelBeside X → X) → Json → X
made_of {X} step json = (fold-Json (Beside X) (MemberBeside X) (level_beside step) same_member json).made

-- a value beside what a function makes of it
abbrev pub beside_with : {X : Type 0} → (Json → X) → Json → Beside X
beside_with f json = record { value = json; made = f json }

-- a member whose value stands so
abbrev pub member_with : {X : Type 0} → (Json → X) → Member → MemberBeside X
member_with f m = record { name = m.name; value = beside_with f m.value }

-- one level, where each smaller value stands so
abbrev pub level_with : {X : Type 0} → (Json → X) → Json-F Json Member → LevelBeside X
level_with f Json-F.Null = Json-F.Null
level_with f (Json-F.Bool b) = Json-F.Bool b
level_with f (Json-F.Int n) = Json-F.Int n
level_with f (Json-F.Text t) = Json-F.Text t
level_with f (Json-F.List xs) = Json-F.List (map (beside_with f) xs)
level_with f (Json-F.Object ms) = Json-F.Object (map (member_with f) ms)
