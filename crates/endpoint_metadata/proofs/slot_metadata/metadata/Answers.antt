use Rattle.std.proofs.Common.{ap, ◌∙◌}
use Rattle.std.specs.Prelude.{filter_map}
use Rattle.endpoint_metadata.specs.Shown.{documented_bodies, documented_parameters, shown, shown_body}
use Rattle.endpoint_metadata.proofs.slot_metadata.metadata.Goals as goal

pub returns-clause-shown : goal.returns-clause-shown
returns-clause-shown c right =
    ap (filter_map shown) c.in_ok-parameters.ensures
    ∙ c.parameters_are_shown.ensures.parameters c.args.content_type c.args.table.now c.as_slice-slots.result.now
    ∙ ap (documented_parameters c.args.table.now) c.as_slice-slots.ensures

pub returns-clause-bodies : goal.returns-clause-bodies
returns-clause-bodies c right =
    ap (filter_map shown_body) c.in_ok-parameters.ensures
    ∙ c.parameters_are_shown.ensures.bodies c.args.content_type c.args.table.now c.as_slice-slots.result.now
    ∙ ap (documented_bodies c.args.content_type c.args.table.now) c.as_slice-slots.ensures
