use Rattle.std.proofs.Common.{ap}
use Rattle.std.proofs.lemmas.Slice.Eq.{bytes_eq-Decides, slice_eq-Decides}
use Rattle.endpoint_metadata.specs.declared.extension.ExtensionMode.TheVariants.{Paginated}
use Rattle.endpoint_metadata.proofs.modes.joined.Goals as goal

pub returns-then-eq-clause-joined : goal.returns-then-eq-clause-joined
returns-then-eq-clause-joined c =
    ap Paginated
    ((slice_eq-Decides bytes_eq-Decides c.in-Paginated.first c.args.names c.eq.result c.eq.ensures).0 c.if-eq.true)

pub returns-then-eq-clause-same : goal.returns-then-eq-clause-same
returns-then-eq-clause-same c first is =
    let same =
    (slice_eq-Decides bytes_eq-Decides c.in-Paginated.first c.args.names c.eq.result c.eq.ensures).0 c.if-eq.true in
    cc (is, same, c.in-Paginated.is)

pub returns-clause-differ : goal.returns-clause-differ
returns-clause-differ c =
    let decides = slice_eq-Decides bytes_eq-Decides c.in-Paginated.first c.args.names c.eq.result c.eq.ensures in
    (c.in-Paginated.first, c.in-Paginated.is, λ same. let told = decides.1 same in absurd (cc (told, c.if-eq.false)))
