use Rattle.std.specs.List.{flat_map}
use Rattle.api_types.proofs.CallerLemmas.{adds_both}
use Rattle.typed_extractors.specs.Selectors.{selectors_in}
use Rattle.typed_extractors.proofs.Reaching.{both_reach}
use Rattle.typed_extractors.proofs.Refusing.{both_have, both_own, first_slot_refused, handed_on, other_slot_refused}
use Rattle.typed_extractors.proofs.tuples.add_slots.Goals as goal

pub returns-in_err-slot-clause-refused : goal.returns-in_err-slot-clause-refused
returns-in_err-slot-clause-refused g c =
    let one = g.S.ExclusiveExtractor in
    let others = g.R.RequestExtractor in
    handed_on c.from_residual.result c.in_err-slot.field-0.0 _ c.from_residual.ensures.1
    (first_slot_refused c.args.table.now one.definitions_of others.definitions_of one.selectors_of others.selectors_of
    c.in_err-slot.field-0.0 c.in_err-slot.ensures.refused)

pub returns-in_err-others-clause-refused : goal.returns-in_err-others-clause-refused
returns-in_err-others-clause-refused g c =
    let one = g.S.ExclusiveExtractor in
    let others = g.R.RequestExtractor in
    handed_on c.from_residual-in_err-others.result c.in_err-others.field-0.0 _ c.from_residual-in_err-others.ensures.1
    (other_slot_refused c.args.table.now one.definitions_of others.definitions_of one.selectors_of others.selectors_of
    c.in_err-others.field-0.0 c.slot.new.table c.in_ok-slot.ensures.added
    c.in_ok-slot.ensures.held c.in_err-others.ensures.refused)

pub returns-clause-reaches : goal.returns-clause-reaches
returns-clause-reaches g c =
    let one = g.S.ExclusiveExtractor in
    let others = g.R.RequestExtractor in
    both_reach one.slot_of others.slots_of one.definitions_of others.definitions_of
    c.in_ok-slot.ensures.reaches c.in_ok-others.ensures.reaches

pub returns-clause-added : goal.returns-clause-added
returns-clause-added g c =
    let one = g.S.ExclusiveExtractor in
    let others = g.R.RequestExtractor in
    (adds_both c.args.table.now one.definitions_of others.definitions_of c.slot.new.table c.slots.new.table
    c.in_ok-others.others c.in_ok-slot.ensures.added c.in_ok-slot.ensures.held
    c.in_ok-others.ensures.added c.in_ok-others.ensures.held).added

pub returns-clause-held : goal.returns-clause-held
returns-clause-held g c =
    let one = g.S.ExclusiveExtractor in
    let others = g.R.RequestExtractor in
    (adds_both c.args.table.now one.definitions_of others.definitions_of c.slot.new.table c.slots.new.table
    c.in_ok-others.others c.in_ok-slot.ensures.added c.in_ok-slot.ensures.held
    c.in_ok-others.ensures.added c.in_ok-others.ensures.held).held

pub returns-clause-tables : goal.returns-clause-tables
returns-clause-tables g c =
    let one = g.S.ExclusiveExtractor in
    let others = g.R.RequestExtractor in
    both_have one.selectors_of others.selectors_of c.in_ok-slot.ensures.tables c.in_ok-others.ensures.tables

pub returns-clause-own_tables : goal.returns-clause-own_tables
returns-clause-own_tables g c =
    let one = g.S.ExclusiveExtractor in
    let others = g.R.RequestExtractor in
    both_own one.selectors_of others.selectors_of (selectors_in one.slot_of) (flat_map selectors_in others.slots_of)
    c.in_ok-slot.ensures.own_tables c.in_ok-others.ensures.own_tables
