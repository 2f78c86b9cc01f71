use Rattle.std.proofs.Common.{◌≡◌, drop}
use Rattle.std.specs.List.{list_any}
use Rattle.schema_values.specs.Same.{same_json}
use Rattle.openapi_values.proofs.asked.is_one_of.Given as goal

abbrev pub invariant-loop-listed : goal.invariant-loop-listed
invariant-loop-listed l = list_any (same_json l.value) (drop l.listed-index l.values) ≡ list_any (same_json l.value) l.fn.values
