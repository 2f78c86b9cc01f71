use Rattle.std.proofs.Common.{Some, None, refl, sym}
use Rattle.std.proofs.lemmas.Option.{slice_get_read, slice_get_past}
use Rattle.std.specs.Prelude.{slice_get}
use Rattle.typed_values.proofs.CallerLemmas.{below_true}
use Rattle.flat_maps.proofs.Chosen.{chosen, not_below}
use Rattle.flat_maps.proofs.refusals.alternative_at.Goals as goal

pub returns-in-Some-clause-alternative : goal.returns-in-Some-clause-alternative
returns-in-Some-clause-alternative c =
    let ds = c.args.alternatives.now in
    let place = c.in-Variant.place in
    sym (chosen (slice_get ds) c.args.tree.now c.in-Variant.field-1 place (Some c.in-Some.alternative.now) c.in-Variant.is (slice_get_read ds _ place c.in-Some.alternative.now refl (below_true _ _ c.in-Some.ensures.lookup.0) c.in-Some.ensures.lookup.1))

pub returns-in-None-clause-alternative : goal.returns-in-None-clause-alternative
returns-in-None-clause-alternative c =
    let ds = c.args.alternatives.now in
    let place = c.in-Variant.place in
    sym (chosen (slice_get ds) c.args.tree.now c.in-Variant.field-1 place None c.in-Variant.is (slice_get_past ds place (not_below _ _ c.in-None.ensures.lookup.0)))
