use Rattle.std.proofs.Common.{sym, inl, inr, ◌∙◌}
use Rattle.semver.specs.Identifiers.{parts_of}
use Rattle.api_versions.specs.Shown.{range_of}
use Rattle.api_versions.proofs.Bounds.{one_bound, two_bounds, turned}
use Rattle.api_versions.proofs.range.ApiEndpointVersions.meets.Goals as goal

pub returns-in-None-Some : goal.returns-in-None-Some
returns-in-None-Some c =
    let mine = range_of c.args.self.now in
    let others = range_of c.args.other.now in
    let here = c.in-None-Some in
    let at = one_bound others mine (parts_of here.bound.now)
    (sym here.ensures'.bound) here.ensures'.held (sym here.ensures.bound) in
    let told = c.holds.ensures in
    (λ test. turned others mine (at.0 (told.0 test)), λ overlap. told.1 (at.1 (turned mine others overlap)))

pub returns-in-Some-None : goal.returns-in-Some-None
returns-in-Some-None c =
    let mine = range_of c.args.self.now in
    let others = range_of c.args.other.now in
    let here = c.in-Some-None in
    let at = one_bound mine others (parts_of here.bound.now)
    (sym here.ensures.bound) here.ensures.held (sym here.ensures'.bound) in
    let told = c.holds-in-Some-None.ensures in
    (λ test. at.0 (told.0 test), λ overlap. told.1 (at.1 overlap))

pub returns-else-holds : goal.returns-else-holds
returns-else-holds c =
    let here = c.in-Some-Some in
    let mine = range_of c.args.self.now in
    let others = range_of c.args.other.now in
    let at = two_bounds mine others (parts_of here.bound.now) (parts_of here.other_bound.now)
    (sym here.ensures.bound) here.ensures.held (sym here.ensures'.bound) here.ensures'.held in
    let told = c.holds-else-holds.ensures in (
      λ test. at.0 (inr (told.0 test)),
      λ overlap. elim (at.1 overlap) [
        | inl in_mine ↦ cc (sym c.if-holds.false ∙ c.holds-in-Some-Some.ensures.1 in_mine)
        | inr in_others ↦ told.1 in_others
      ],
    )
