use Rattle.std.proofs.Common.{subst, sym}
use Rattle.endpoint_parameters.specs.Steps.{IsScalarWithin}
use Rattle.endpoint_parameters.proofs.Resolving.{scalar_enough, scalar_told}
use Rattle.endpoint_parameters.proofs.resolved.is_scalar.Goals as goal

pub returns : goal.returns
returns c =
    let table = c.args.table.now in
    let d = c.args.desc.now in
    let told = c.is_scalar_within.ensures in (
      λ h. scalar_told table d (subst (λ n. IsScalarWithin table n d) c.len.ensures (told.0 h)),
      λ scalar. told.1 (subst (λ n. IsScalarWithin table n d) (sym c.len.ensures) (scalar_enough table d scalar)),
    )
