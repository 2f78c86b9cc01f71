use Rattle.endpoint_metadata.proofs.ShownSlots.{bodies_shown, parameters_shown}
use Rattle.endpoint_metadata.proofs.laws.parameters_are_shown.Goals as goal

pub returns : goal.returns
returns c =
    let schemas = c.schemas_written.ensures in
    record {
      parameters = parameters_shown schemas.plain schemas.titled;
      bodies = bodies_shown schemas.plain schemas.titled;
    }
