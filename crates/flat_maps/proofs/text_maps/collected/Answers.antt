use Rattle.std.proofs.Common.{◌≡◌, ◌<◌, List, length, map, get_or, sym, ◌∙◌, ap, arith}
use Rattle.std.proofs.lemmas.List.{length-map, get_or-map}
use Rattle.flat_maps.specs.TextMaps.{TextEntry}
use Rattle.flat_maps.proofs.TextLoops.{next_sorted}
use Rattle.flat_maps.proofs.text_maps.collected.Goals as goal

pub loop-name-preserved : goal.loop-name-preserved
loop-name-preserved c =
    let es : List TextEntry = map (λ entry. (entry.0.now, entry.1.now)) c.args.entries.now in
    let i = c.loop-name.name-index in
    let e : TextEntry = (c.loop-name-item.result.0.now, c.loop-name-item.result.1.now) in
    let less : i < length es = simp length-map (omega arith) in
    let is : e ≡ get_or es i e =
    ap (λ entry. (entry.0.now, entry.1.now)) c.loop-name-item.is ∙ sym (get_or-map (λ entry. (entry.0.now, entry.1.now)) c.args.entries.now i c.loop-name-item.result e (omega arith)) in
    rw (c.in_ok-insert.ensures.entries, c.in_ok-copy.ensures, c.in_ok-copy-2.ensures) (next_sorted c.loop-name.map.entries es i e c.requires less is c.loop-name.invariant)
