use Rattle.std.proofs.Common.{◌≡◌, Bool, List, drop}
use Rattle.std.specs.List.{list_all}
use Rattle.schema_values.specs.declared.json_value.Json.{Json, out-Json}
use Rattle.schema_values.specs.declared.json_value.Member.{Member}
use Rattle.openapi_values.specs.Levels.{as_text, has_member}
use Rattle.openapi_values.specs.Options.{is_some_and}
use Rattle.openapi_values.proofs.keyword_rules.all_stand.Given as goal

abbrev is_name : List Member → Json → Bool
is_name members name = is_some_and (as_text (out-Json name)) (λ t. has_member t members)

abbrev pub invariant-loop-name : goal.invariant-loop-name
invariant-loop-name l = list_all (is_name l.members) (drop l.name-index l.names) ≡ list_all (is_name l.members) l.fn.names
