use Rattle.std.proofs.Common.{◌+◌, List, map, drop, refl, sym, ◌∙◌, ap, arith}
use Rattle.std.proofs.lemmas.Option.{slice_get_read, slice_get_past}
use Rattle.std.proofs.lemmas.Result.{err_from_is_err_and}
use Rattle.typed_values.proofs.CallerLemmas.{below_true}
use Rattle.flat_maps.specs.TextMaps.{TextEntry, texts_written}
use Rattle.flat_maps.proofs.Chosen.{not_below}
use Rattle.flat_maps.proofs.TextLoops.{behind, text_told, text_err, fields_end, trees_end}
use Rattle.flat_maps.proofs.field_texts.field_texts.Goals as goal

pub returns-in_default : goal.returns-in_default
returns-in_default c =
    let fs = c.args.fields.now in
    let ts = c.args.trees.now in
    let es : List TextEntry = map (λ entry. (entry.0.now, entry.1.now)) c.loop-place.entries in
    trees_end c.args.table.now (texts_written c.args.table.now fs ts) fs ts c.loop-place.place es c.loop-place.invariant (slice_get_past ts c.loop-place.place (not_below _ _ c.in_default.ensures.lookup.0))

pub returns-in_err-text : goal.returns-in_err-text
returns-in_err-text c =
    let fs = c.args.fields.now in
    let ts = c.args.trees.now in
    let es : List TextEntry = map (λ entry. (entry.0.now, entry.1.now)) c.loop-place.entries in
    let there = slice_get_read ts _ c.loop-place.place c.in-Some.tree.now refl (below_true _ _ c.in-Some.ensures.lookup.0) c.in-Some.ensures.lookup.1 in
    let p = err_from_is_err_and c.from_residual.result c.from_residual.ensures.1 in
    rw (p.1, p.2)
    (text_err c.args.table.now (texts_written c.args.table.now fs ts) fs ts c.loop-place.place es c.loop-place.invariant c.index-fields-place.result c.in-Some.tree.now (omega arith) c.index-fields-place.is there c.in_err-text.field-0.0 c.in_err-text.ensures)

pub loop-place-preserved : goal.loop-place-preserved
loop-place-preserved c =
    let fs = c.args.fields.now in
    let ts = c.args.trees.now in
    let es : List TextEntry = map (λ entry. (entry.0.now, entry.1.now)) c.loop-place.entries in
    let there = slice_get_read ts _ c.loop-place.place c.in-Some.tree.now refl (below_true _ _ c.in-Some.ensures.lookup.0) c.in-Some.ensures.lookup.1 in
    text_told c.args.table.now (texts_written c.args.table.now fs ts) fs ts c.loop-place.place es c.loop-place.invariant c.index-fields-place.result c.in-Some.tree.now (omega arith) c.index-fields-place.is there _ c.in_ok-text.ensures
    ∙ ap (λ (es : List TextEntry). behind es (texts_written c.args.table.now (drop (c.loop-place.place + 1) fs) (drop (c.loop-place.place + 1) ts))) (sym c.in_ok-push_text.ensures)

pub returns : goal.returns
returns c =
    let fs = c.args.fields.now in
    let ts = c.args.trees.now in
    let es : List TextEntry = map (λ entry. (entry.0.now, entry.1.now)) c.loop-place.entries in
    fields_end c.args.table.now (texts_written c.args.table.now fs ts) fs ts c.loop-place.place es c.loop-place.invariant (omega arith)
