-- What stands under a name in a map of texts, as the variables of a path are given (OpenAPI 3.0.3, Parameter Object).
use Rattle.std.specs.Prelude.{ℕ, List, option_map}
use Rattle.std.specs.BTreeMap.{BTreeMap, get_by}
use Rattle.std.specs.Cmp.Lexicographic.{slice_cmp}
use Rattle.std.specs.Ordering.{nat_cmp}
use Rattle.schema_values.specs.declared.variables.VariableValue.{VariableValue}
use Rattle.flat_maps.specs.Given.{Names}

-- the value that a map has at a name, seen as a text or a list of texts
abbrev pub map_values : {X : Type 0} → (X → VariableValue) → BTreeMap (List ℕ) X → Names
map_values given map name = option_map given (get_by (slice_cmp nat_cmp name) map)
