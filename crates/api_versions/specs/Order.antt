-- The order of versions: the precedence of Semantic Versioning 2.0.0 (section 11), which leaves versions
-- equal that differ in build metadata alone, and then the order that `semver` has for build metadata.
use Rattle.std.specs.Prelude.{◌≡◌, Bool, false, IsTrue}
use Rattle.std.specs.Ordering.{is_lt, nat_cmp, on, then_cmp}
use Rattle.std.specs.declared.cmp.Ordering.{Ordering}
use Rattle.semver.specs.Order.{build_cmp, pre_cmp}
use Rattle.semver.specs.Parse.{Parts}

-- by the major, the minor and the patch number, the pre-release, and then the build metadata
abbrev pub version_cmp : Parts → Parts → Ordering
version_cmp =
    then_cmp (on (λ (v : Parts). v.0) nat_cmp) (then_cmp (on (λ (v : Parts). v.1) nat_cmp)
    (then_cmp (on (λ (v : Parts). v.2) nat_cmp) (then_cmp (on (λ (v : Parts). v.3) pre_cmp)
    (on (λ (v : Parts). v.4) build_cmp))))

-- whether a version is below another
abbrev pub is_below : Parts → Parts → Bool
is_below version other = is_lt (version_cmp version other)

-- a version is below another
abbrev pub IsBelow : Parts → Parts → Type 0
IsBelow version other = IsTrue (is_below version other)

-- a version is another or above it
abbrev pub IsAtLeast : Parts → Parts → Type 0
IsAtLeast version other = is_below version other ≡ false
