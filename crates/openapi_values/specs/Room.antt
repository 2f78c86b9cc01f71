-- The steps at each value: as many as there are JSON values to go through, and one more.
use Rattle.std.specs.Prelude.{ℕ, suc, ◌+◌, sum}
use Rattle.schema_values.specs.declared.json_value.Json.{Json, fold-Json}
use Rattle.schema_values.specs.declared.json_value.Json.TheOpen.{Json-F, Member-F}

-- the number of values at one level, where each smaller value stands as its number
abbrev pub values_step : Json-F ℕ ℕ → ℕ
values_step (Json-F.List ns) = suc (sum ns)
values_step (Json-F.Object ns) = suc (sum ns)
values_step _ = 1

-- a member has the values of its value
abbrev pub values_of_member : Member-F ℕ ℕ → ℕ
values_of_member m = m.value

-- the number of JSON values in a value, with itself
unfoldable pub values : Json → ℕ
values = fold-Json ℕ ℕ values_step values_of_member

-- the steps at each value, for a document and a schema
abbrev pub room : Json → Json → ℕ
room doc schema = suc (values doc + values schema)
