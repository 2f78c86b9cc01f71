-- The order of versions is total, and tells all versions apart.
use Rattle.std.specs.Prelude.{◌≡◌, ◌↔◌, true, false}
use Rattle.std.proofs.Common.{refl, sym, ap, ◌∙◌}
use Rattle.std.specs.declared.cmp.Ordering.{Ordering}
use Rattle.std.specs.declared.cmp.Ordering.TheVariants.{Less, Equal, Greater}
use Rattle.std.specs.Ordering.{is_ge, is_gt, is_le, is_lt, ordering_reverse, ordering_then}
use Rattle.std.specs.Cmp.{IsTotalOrder, nat_cmp_total, on_total, then_total, tied_itself, upto}
use Rattle.std.specs.FinMap.{IsAntisymmetric, nat_cmp-IsAntisymmetric}
use Rattle.semver.specs.Parse.{Parts}
use Rattle.semver.specs.OrderLaws.{build-anti, build_total, pre-anti, pre_total}
use Rattle.api_versions.specs.Order.{IsAtLeast, IsBelow, is_below, version_cmp}

-- two comparisons that tie together tie each
then_first : (r s : Ordering) → ordering_then r s ≡ Equal → r ≡ Equal
then_first Less s e = cc e
then_first Equal s e = refl
then_first Greater s e = cc e

then_second : (r s : Ordering) → ordering_then r s ≡ Equal → s ≡ Equal
then_second Less s e = cc e
then_second Equal s e = e
then_second Greater s e = cc e

pub version_total : IsTotalOrder version_cmp
version_total =
    then_total (on_total (λ (v : Parts). v.0) nat_cmp_total)
    (then_total (on_total (λ (v : Parts). v.1) nat_cmp_total)
    (then_total (on_total (λ (v : Parts). v.2) nat_cmp_total)
    (then_total (on_total (λ (v : Parts). v.3) pre_total) (on_total (λ (v : Parts). v.4) build_total))))

-- versions that tie are the same
pub version_anti : IsAntisymmetric version_cmp
version_anti x y e =
    let after_major = then_second _ _ e in
    let after_minor = then_second _ _ after_major in
    let after_patch = then_second _ _ after_minor in
    let major : x.0 ≡ y.0 = nat_cmp-IsAntisymmetric _ _ (then_first _ _ e) in
    let minor : x.1 ≡ y.1 = nat_cmp-IsAntisymmetric _ _ (then_first _ _ after_major) in
    let patch : x.2 ≡ y.2 = nat_cmp-IsAntisymmetric _ _ (then_first _ _ after_minor) in
    let pre : x.3 ≡ y.3 = pre-anti _ _ (then_first _ _ after_patch) in
    let build : x.4 ≡ y.4 = build-anti _ _ (then_second _ _ after_patch) in
    λ i. (major i, minor i, patch i, pre i, build i)

pub ties_itself : (x : Parts) → version_cmp x x ≡ Equal
ties_itself x = tied_itself version_total x

turned : (r : Ordering) → is_gt (ordering_reverse r) ≡ is_lt r
turned Less = refl
turned Equal = refl
turned Greater = refl

-- above is below from the other side
pub above-is_below : (x y : Parts) → is_gt (version_cmp x y) ≡ is_below y x
above-is_below x y = ap is_gt (version_total.antisymm x y) ∙ turned (version_cmp y x)

-- each version is at least itself
pub at_least_itself : (x : Parts) → IsAtLeast x x
at_least_itself x = ap is_lt (ties_itself x)

pub at_least_on : (x y z : Parts) → IsAtLeast x y → IsAtLeast y z → IsAtLeast x z
at_least_on x y z p q =
    sym (above-is_below z x) ∙ upto version_total z y x (above-is_below z y ∙ q) (above-is_below y x ∙ p)

one_side : (r : Ordering) → is_lt r ≡ true → is_gt r ≡ false
one_side Less e = refl
one_side Equal e = refl
one_side Greater e = sym e

-- of two versions of which one is below, the other is at least that
pub below-at_least : (x y : Parts) → IsBelow x y → IsAtLeast y x
below-at_least x y below = sym (above-is_below x y) ∙ one_side (version_cmp x y) below

neither : (r : Ordering) → is_lt r ≡ false → is_gt r ≡ false → r ≡ Equal
neither Less e f = cc e
neither Equal e f = refl
neither Greater e f = cc f

-- versions of which each is at least the other are the same
pub at_least-same : (x y : Parts) → IsAtLeast x y → IsAtLeast y x → x ≡ y
at_least-same x y p q = version_anti x y (neither (version_cmp x y) p (above-is_below x y ∙ q))

-- the test of a comparison by `>=`
pub at_least-is : (r : Ordering) → (is_ge r ≡ true) ↔ (is_lt r ≡ false)
at_least-is Less = (λ e. sym e, λ e. sym e)
at_least-is Equal = (λ e. refl, λ e. refl)
at_least-is Greater = (λ e. refl, λ e. refl)

-- and by `<=`
pub at_most-is : (r : Ordering) → (is_le r ≡ true) ↔ (is_gt r ≡ false)
at_most-is Less = (λ e. refl, λ e. refl)
at_most-is Equal = (λ e. refl, λ e. refl)
at_most-is Greater = (λ e. sym e, λ e. sym e)
