use Rattle.std.proofs.Common.{◌≡◌, map, drop}
use Rattle.flat_maps.specs.TextMaps.{texts_written}
use Rattle.flat_maps.proofs.TextLoops.{behind}
use Rattle.flat_maps.proofs.field_texts.field_texts.Given as goal

abbrev pub invariant-loop-place : goal.invariant-loop-place
invariant-loop-place l = texts_written l.table l.fields l.trees ≡ behind (map (λ entry. (entry.0.now, entry.1.now)) l.entries) (texts_written l.table (drop l.place l.fields) (drop l.place l.trees))
