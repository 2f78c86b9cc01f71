use Rattle.std.proofs.Common.{subst, sym}
use Rattle.semver.specs.Identifiers.{parts_of}
use Rattle.api_versions.specs.Ranges.{Holds, from_until}
use Rattle.api_versions.specs.Shown.{earliest_of, until_of}
use Rattle.api_versions.proofs.Bounds.{holds-earliest}
use Rattle.api_versions.proofs.Orders.{at_least_itself}
use Rattle.api_versions.proofs.range.ApiEndpointVersions.lower_bound.Goals as goal

pub returns-in-From-clause-held : goal.returns-in-From-clause-held
returns-in-From-clause-held c = rw c.in-From.is (at_least_itself (parts_of c.in-From.earliest))

pub returns-in-FromUntil-clause-held : goal.returns-in-FromUntil-clause-held
returns-in-FromUntil-clause-held c =
    let pair = c.in-FromUntil.pair in
    let first = holds-earliest (earliest_of pair) (until_of pair) pair.ordered in
    rw c.in-FromUntil.is
    (subst (Holds (from_until (earliest_of pair) (until_of pair))) (sym c.earliest.ensures) first)
