use Rattle.std.proofs.Common.{◌≡◌, map, take}
use Rattle.schema_values.specs.Order.{sorted_by}
use Rattle.flat_maps.specs.TextMaps.{entry_name}
use Rattle.flat_maps.proofs.text_maps.collected.Given as goal

abbrev pub invariant-loop-name : goal.invariant-loop-name
invariant-loop-name l = l.map.entries ≡ sorted_by entry_name (take l.name-index (map (λ entry. (entry.0.now, entry.1.now)) l.entries))
