-- When two JSON values are the same, with the members of each object in the same order.
use Rattle.std.specs.Prelude.{Bool as Truth, true, false, ◌&&◌, bytes_eq}
use Rattle.std.specs.Ordering.{int_eq}
use Rattle.std.specs.Bool.{beq}
use Rattle.schema_values.specs.declared.json_value.Json.{Json, Null, Bool, Int, Text, List', Object', Row_of-Json, end_of-Json, more_of-Json, Row_of-Member, end_of-Member, more_of-Member}

abbrev mutual
  -- the two values are the same
  pub same_json : Json → Json → Truth
  same_json Null Null = true
  same_json (Bool b) (Bool c) = beq b c
  same_json (Int n) (Int m) = int_eq n m
  same_json (Text t) (Text u) = bytes_eq t u
  same_json (List' shape items) (List' form others) = same_items items others
  same_json (Object' shape members) (Object' form others) = same_members members others
  same_json _ _ = false

  -- there are as many items, and each is the same as the other in its place
  pub same_items : {m n : _} → Row_of-Json m → Row_of-Json n → Truth
  same_items end_of-Json end_of-Json = true
  same_items (more_of-Json item rest) (more_of-Json other others) = same_json item other && same_items rest others
  same_items _ _ = false

  -- the same of members, of which each has the name of the other too
  pub same_members : {m n : _} → Row_of-Member m → Row_of-Member n → Truth
  same_members end_of-Member end_of-Member = true
  same_members (more_of-Member name value rest) (more_of-Member title other others) = bytes_eq name title && same_json value other && same_members rest others
  same_members _ _ = false
