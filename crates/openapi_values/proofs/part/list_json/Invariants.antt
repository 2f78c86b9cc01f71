use Rattle.std.proofs.Common.{◌≡◌, take, map}
use Rattle.openapi_values.proofs.part.list_json.Given as goal

abbrev pub invariant-loop-part : goal.invariant-loop-part
invariant-loop-part g l = l.items ≡ map g.T.Part.json (take l.part-index l.part-items)
