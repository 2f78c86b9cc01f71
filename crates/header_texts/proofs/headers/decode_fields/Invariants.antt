use Rattle.std.proofs.Common.{◌≡◌, drop, map}
use Rattle.request_parts.specs.Wire.{wire_line}
use Rattle.typed_values.specs.Denotes.{by_presence, all_told}
use Rattle.flat_maps.proofs.CallerLemmas.{after}
use Rattle.header_texts.specs.HeaderTexts.{header_told}
use Rattle.header_texts.proofs.headers.decode_fields.Given as goal

abbrev pub invariant-loop-field : goal.invariant-loop-field
invariant-loop-field l =
    let value = header_told l.table (map wire_line l.lines) in
    all_told (λ i f. by_presence f (value f)) 0 l.fields ≡ after l.trees (all_told (λ i f. by_presence f (value f)) l.field-index (drop l.field-index l.fields))
