use Rattle.std.proofs.Common.{None, ℕ, refl, sym, ◌∙◌, ap}
use Rattle.std.proofs.lemmas.Option.{slice_get_read, slice_get_past}
use Rattle.std.specs.Prelude.{slice_get}
use Rattle.typed_values.proofs.CallerLemmas.{below_true}
use Rattle.flat_maps.specs.Refusals.{payload_there}
use Rattle.flat_maps.proofs.Chosen.{chosen, not_below}
use Rattle.flat_maps.proofs.refusals.payload_at.Goals as goal

pub returns-in-Some-clause-payload : goal.returns-in-Some-clause-payload
returns-in-Some-clause-payload c =
    let vs = c.args.variants.now in
    let place = c.in-Variant.place in
    let there = slice_get_read vs _ place c.in-Some.variant.now refl (below_true _ _ c.in-Some.ensures.lookup.0) c.in-Some.ensures.lookup.1 in
    c.as_ref.ensures.value ∙ sym (chosen (λ (i : ℕ). payload_there (slice_get vs i)) c.args.tree.now c.in-Variant.field-1 place c.in-Some.variant.now.payload c.in-Variant.is (ap payload_there there))

pub returns-in-None-clause-payload : goal.returns-in-None-clause-payload
returns-in-None-clause-payload c =
    let vs = c.args.variants.now in
    let place = c.in-Variant.place in
    let past = slice_get_past vs place (not_below _ _ c.in-None.ensures.lookup.0) in
    sym (chosen (λ (i : ℕ). payload_there (slice_get vs i)) c.args.tree.now c.in-Variant.field-1 place None c.in-Variant.is (ap payload_there past))
