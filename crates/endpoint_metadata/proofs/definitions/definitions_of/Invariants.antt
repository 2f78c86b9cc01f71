use Rattle.std.proofs.Common.{◌≡◌, map, take}
use Rattle.typed_values.specs.Schemas.{definition_value}
use Rattle.endpoint_metadata.specs.Values.{named_schemas}
use Rattle.endpoint_metadata.proofs.definitions.definitions_of.Given as goal

-- the definitions so far
abbrev pub invariant-loop-definition : goal.invariant-loop-definition
invariant-loop-definition l =
    named_schemas l.definitions.entries
    ≡ map (λ e. (e.name, definition_value l.table e)) (take l.definition-index l.definition-items)
