use Rattle.std.proofs.Common.{◌≡◌, ◌∷◌}
use Rattle.handler_shapes.proofs.CallerLemmas.{all_untouched}
use Rattle.typed_extractors.proofs.Arguments.{first_taken, others_taken}
use Rattle.typed_extractors.proofs.tuples.first_of.Goals as goal

pub from_arg-requires : goal.from_arg-requires
from_arg-requires g c =
    let one = g.S.ExclusiveExtractor in
    let others = g.R.RequestExtractor in
    let whole : c.args.args.now ≡ c.in-Some.first.now ∷ c.in-Some.others.now = c.in-Some.ensures.cases.0 in
    first_taken one.slot_of others.slots_of one.definitions_of others.definitions_of one.selectors_of
    others.selectors_of c.in-Some.first.now c.in-Some.others.now (rw whole at c.requires)

pub returns-in_err-value-in-Some-clause-stay : goal.returns-in_err-value-in-Some-clause-stay
returns-in_err-value-in-Some-clause-stay g c =
    let whole : c.args.args.now ≡ c.in-Some.first.now ∷ c.in-Some.others.now = c.in-Some.ensures.cases.0 in
    rw whole (c.from_arg.ensures.stays, all_untouched c.in-Some.others.now)

pub from_args-requires : goal.from_args-requires
from_args-requires g c =
    let one = g.S.ExclusiveExtractor in
    let others = g.R.RequestExtractor in
    let whole : c.args.args.now ≡ c.in-Some.first.now ∷ c.in-Some.others.now = c.in-Some.ensures.cases.0 in
    others_taken one.slot_of others.slots_of one.definitions_of others.definitions_of one.selectors_of
    others.selectors_of c.in-Some.first.now c.in-Some.others.now (rw whole at c.requires)
