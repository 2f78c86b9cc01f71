use Rattle.std.proofs.Common.{◌≡◌, take}
use Rattle.openapi_values.specs.Objects.{map_members}
use Rattle.openapi_values.proofs.part.map_json.Given as goal

abbrev pub invariant-loop-entry : goal.invariant-loop-entry
invariant-loop-entry g l = l.members ≡ map_members g.T.Part.json (take l.entry-index l.entry-items)
