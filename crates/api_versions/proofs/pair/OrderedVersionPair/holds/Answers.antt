use Rattle.std.proofs.Common.{sym, inl, ap}
use Rattle.std.specs.Ordering.{is_lt}
use Rattle.semver.specs.Identifiers.{parts_of}
use Rattle.api_versions.specs.Shown.{earliest_of, until_of}
use Rattle.api_versions.proofs.Equal.{at_least_test, same_version}
use Rattle.api_versions.proofs.Pairs.{above_not_held, held_at}
use Rattle.api_versions.proofs.pair.OrderedVersionPair.holds.Goals as goal

pub returns-in-Less : goal.returns-in-Less
returns-in-Less c =
    let test = at_least_test c.args.version.now c.args.self.now.earliest in
    rw c.ge.ensures
    (λ at_least. (test.0 at_least, inl (ap is_lt (sym c.in-Less.ensures))), λ held. test.1 held.0)

pub returns-in-Equal : goal.returns-in-Equal
returns-in-Equal c =
    let pair = c.args.self.now in
    let version = parts_of c.args.version.now in
    let at = held_at (earliest_of pair) (until_of pair) version (sym c.in-Equal.ensures) in
    let same = same_version c.args.version.now c.args.self.now.earliest in
    rw c.eq.ensures (λ test. at.0 (same.0 test), λ held. same.1 (at.1 held))

pub returns-in-Greater : goal.returns-in-Greater
returns-in-Greater c =
    let pair = c.args.self.now in
    let version = parts_of c.args.version.now in
    let above = above_not_held (earliest_of pair) (until_of pair) version (sym c.in-Greater.ensures) in
    (λ e. cc e, λ held. absurd (above held))
