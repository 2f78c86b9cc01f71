-- The number of JSON values in a member.
use Rattle.std.specs.Prelude.{ℕ}
use Rattle.schema_values.specs.declared.json_value.Member.{Member}
use Rattle.openapi_values.specs.Room.{values}

-- as many as its value has
abbrev pub member_values : Member → ℕ
member_values m = values m.value
