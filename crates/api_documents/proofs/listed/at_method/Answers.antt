use Rattle.std.proofs.Common.{sym, ◌∙◌}
use Rattle.api_documents.specs.Places.{has_method}
use Rattle.path_templates.proofs.CallerLemmas.{found_here, found_later}
use Rattle.api_documents.proofs.listed.at_method.Goals as goal

pub loop-place-preserved : goal.loop-place-preserved
loop-place-preserved c =
    c.loop-place.invariant
    ∙ found_later
    (has_method c.args.method.now) c.args.declarations.now c.args.places.now c.loop-place.place-index
    c.loop-place-test.true c.in-None.ensures

pub returns-in-Some : goal.returns-in-Some
returns-in-Some c =
    sym (c.loop-place.invariant
    ∙ found_here
    (has_method c.args.method.now) c.args.declarations.now c.args.places.now c.loop-place.place-index
    c.loop-place-test.true c.in-Some.declaration.now c.in-Some.ensures)
