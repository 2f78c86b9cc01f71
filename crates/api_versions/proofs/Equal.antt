-- The derived comparisons tell whether versions and ranges are the same.
use Rattle.std.specs.Prelude.{◌≡◌, ◌↔◌, Bool, true, Option}
use Rattle.std.proofs.Common.{refl, sym, ap, ◌∙◌}
use Rattle.std.proofs.lemmas.Bool.{and_from, and_parts}
use Rattle.std.specs.declared.cmp.Ordering.{Ordering}
use Rattle.std.specs.Cmp.{Equal-is}
use Rattle.std.specs.Ordering.{is_eq, is_ge, is_le, is_some_and, partial_ge, partial_le}
use Rattle.semver.specs.declared.Version.{Version}
use Rattle.semver.specs.Identifiers.{parts_of}
use Rattle.semver.specs.contracts.VersionPartialEq.TheImpl as version_test
use Rattle.semver.specs.contracts.VersionOrd.TheImpl.Laws as version_order
use Rattle.semver.specs.contracts.VersionPartialOrd.TheImpl as partial_test
use Rattle.api_versions.specs.Ranges.{from, from_until, until}
use Rattle.api_versions.specs.Shown.{earliest_of, range_of, until_of}
use Rattle.api_versions.specs.contracts.range.ApiEndpointVersionsPartialEq.TheImpl as range_test
use Rattle.api_versions.specs.declared.range.ApiEndpointVersions.{ApiEndpointVersions}
use Rattle.api_versions.specs.declared.range.ApiEndpointVersions.TheVariants.{All, From, FromUntil, Until}
use Rattle.api_versions.specs.Order.{IsAtLeast, version_cmp}
use Rattle.api_versions.proofs.Orders.{above-is_below, at_least-is, at_most-is, ties_itself, version_anti}

abbrev version_eq : Version → Version → Bool
version_eq = version_test.ghosts.eq

abbrev version_partial : Version → Version → Option Ordering
version_partial = partial_test.ghosts.partial_cmp

tie : (v w : Version) → version_eq v w ≡ is_eq (version_cmp (parts_of v) (parts_of w))
tie v w = version_order.matches_eq-law v w

pub same_version : (v w : Version) → (version_eq v w ≡ true) ↔ (parts_of v ≡ parts_of w)
same_version v w =
    let ties = Equal-is (version_cmp (parts_of v) (parts_of w)) in (
      λ e. version_anti (parts_of v) (parts_of w) (ties.0 (sym (tie v w) ∙ e)),
      λ e. tie v w ∙ ties.1 (ap (version_cmp (parts_of v)) (sym e) ∙ ties_itself (parts_of v)),
    )

-- the test of versions by `>=`
pub at_least_test : (v w : Version)
    → (partial_ge version_partial v w ≡ true) ↔ IsAtLeast (parts_of v) (parts_of w)
at_least_test v w =
    let test = at_least-is (version_cmp (parts_of v) (parts_of w)) in
    let by_order = ap (is_some_and is_ge) (version_order.matches_partial_cmp-law v w) in
    (λ e. test.0 (sym by_order ∙ e), λ at_least. by_order ∙ test.1 at_least)

-- the test of versions by `<=`
pub at_most_test : (v w : Version)
    → (partial_le version_partial v w ≡ true) ↔ IsAtLeast (parts_of w) (parts_of v)
at_most_test v w =
    let test = at_most-is (version_cmp (parts_of v) (parts_of w)) in
    let by_order = ap (is_some_and is_le) (version_order.matches_partial_cmp-law v w) in
    let turned = above-is_below (parts_of v) (parts_of w) in
    (λ e. sym turned ∙ test.0 (sym by_order ∙ e), λ at_least. by_order ∙ test.1 (turned ∙ at_least))

abbrev range_eq : ApiEndpointVersions → ApiEndpointVersions → Bool
range_eq = range_test.ghosts.eq

-- the derived test of ranges
pub same_range : (a b : ApiEndpointVersions) → (range_eq a b ≡ true) ↔ (range_of a ≡ range_of b)
same_range All All = (λ e. refl, λ e. refl)
same_range All (From w) = (λ e. cc e, λ e. cc e)
same_range All (FromUntil q) = (λ e. cc e, λ e. cc e)
same_range All (Until w) = (λ e. cc e, λ e. cc e)
same_range (From v) All = (λ e. cc e, λ e. cc e)
same_range (From v) (From w) =
    let test = same_version v w in
    (λ e. ap from (test.0 e), λ e. let same : parts_of v ≡ parts_of w = cc e in test.1 same)
same_range (From v) (FromUntil q) = (λ e. cc e, λ e. cc e)
same_range (From v) (Until w) = (λ e. cc e, λ e. cc e)
same_range (FromUntil p) All = (λ e. cc e, λ e. cc e)
same_range (FromUntil p) (From w) = (λ e. cc e, λ e. cc e)
same_range (FromUntil p) (FromUntil q) =
    let first = same_version p.earliest q.earliest in
    let second = same_version p.until q.until in (
      λ e. let both = and_parts _ _ e in λ i. from_until (first.0 both.0 i) (second.0 both.1 i),
      λ e.
          let earliest : earliest_of p ≡ earliest_of q = cc e in
          let end : until_of p ≡ until_of q = cc e in
          and_from _ _ (first.1 earliest) (second.1 end),
    )
same_range (FromUntil p) (Until w) = (λ e. cc e, λ e. cc e)
same_range (Until v) All = (λ e. cc e, λ e. cc e)
same_range (Until v) (From w) = (λ e. cc e, λ e. cc e)
same_range (Until v) (FromUntil q) = (λ e. cc e, λ e. cc e)
same_range (Until v) (Until w) =
    let test = same_version v w in
    (λ e. ap until (test.0 e), λ e. let same : parts_of v ≡ parts_of w = cc e in test.1 same)
