use Rattle.std.proofs.Common.{suc, ap, ◌∙◌}
use Rattle.flat_maps.specs.Flat.{resolved_at}
use Rattle.endpoint_parameters.proofs.Resolving.{resolved_enough}
use Rattle.endpoint_parameters.proofs.resolved.resolved.Goals as goal

pub returns : goal.returns
returns c =
    c.resolved_within.ensures ∙ ap (λ n. resolved_at c.args.table.now (suc n) c.args.desc.now) c.len.ensures
    ∙ resolved_enough c.args.table.now c.args.desc.now
