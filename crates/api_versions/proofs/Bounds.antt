-- What ranges hold, by their bounds.
use Rattle.std.specs.Prelude.{◌≡◌, ◌⊎◌, ◌↔◌, Some}
use Rattle.std.proofs.Common.{sym, ◌∙◌, subst, inl, inr}
use Rattle.std.proofs.lemmas.Bool.{cases_Bool, true_from_ne_false, true≢false}
use Rattle.semver.specs.Parse.{Parts}
use Rattle.api_versions.specs.Order.{IsAtLeast, IsBelow, is_below}
use Rattle.api_versions.specs.Overlaps.{HasNoLowerBound, Overlaps, SharesVersion}
use Rattle.api_versions.specs.Ranges.{Holds, VersionRange, all, from, from_until, until, lower_bound}
use Rattle.api_versions.proofs.Orders.{at_least-same, at_least_itself, at_least_on, below-at_least}

-- what is at most a version that is below another is below that too
at_most_below : (x y z : Parts) → IsAtLeast y x → IsBelow y z → IsBelow x z
at_most_below x y z at_most below =
    true_from_ne_false _ (λ above. true≢false (sym below ∙ at_least_on y x z at_most above))

-- the first of two versions in order is held from it until the other
pub holds-earliest : (earliest end : Parts) → IsAtLeast end earliest
    → Holds (from_until earliest end) earliest
holds-earliest earliest end ordered = (
  at_least_itself earliest,
  elim (cases_Bool (is_below earliest end)) [
    | inl below ↦ inl below
    | inr above ↦ let same = at_least-same earliest end above ordered in inr (same, sym same)
  ],
)

-- what a range holds is at least its lower bound
above_bound : (range : VersionRange) (bound version : Parts) → lower_bound range ≡ Some bound
    → Holds range version → IsAtLeast version bound
above_bound all bound version is held = cc is
above_bound (from earliest) bound version is held =
    let same : earliest ≡ bound = cc is in subst (λ b. IsAtLeast version b) same held
above_bound (from_until earliest end) bound version is held =
    let same : earliest ≡ bound = cc is in subst (λ b. IsAtLeast version b) same held.0
above_bound (until end) bound version is held = cc is

-- a range that holds two versions holds what lies between
between : (range : VersionRange) (low version high : Parts) → Holds range low → IsAtLeast version low
    → IsAtLeast high version → Holds range high → Holds range version
between all low version high held_low above below held_high = tt
between (from earliest) low version high held_low above below held_high =
    at_least_on version low earliest above held_low
between (from_until earliest end) low version high held_low above below held_high =
    let from_earliest = at_least_on version low earliest above held_low.0 in (
      from_earliest,
      elim held_high.1 [
        | inl under ↦ inl (at_most_below version high end below under)
        | inr one ↦
            let up_to = subst (λ v. IsAtLeast v version) (one.0 ∙ one.1) below in
            inr (at_least-same version earliest from_earliest up_to ∙ sym one.1, one.1)
      ],
    )
between (until end) low version high held_low above below held_high =
    at_most_below version high end below held_high

-- a range without a lower bound holds what lies below a version that it holds
down_from : (range : VersionRange) (version high : Parts) → HasNoLowerBound range
    → IsAtLeast high version → Holds range high → Holds range version
down_from all version high none below held = tt
down_from (from earliest) version high none below held = cc none
down_from (from_until earliest end) version high none below held = cc none
down_from (until end) version high none below held = at_most_below version high end below held

shares_back : (left right : VersionRange) → SharesVersion left right → SharesVersion right left
shares_back left right shared =
    record { version = shared.version; in_left = shared.in_right; in_right = shared.in_left }

-- ranges overlap whichever is named first
pub turned : (left right : VersionRange) → Overlaps left right → Overlaps right left
turned left right overlap = elim overlap [
  | inl shared ↦ inl (shares_back left right shared)
  | inr unbounded ↦ inr (unbounded.1, unbounded.0)
]

-- where one range alone has a lower bound, they overlap where the other holds it
pub one_bound : (left right : VersionRange) (bound : Parts) → lower_bound left ≡ Some bound
    → Holds left bound → HasNoLowerBound right
    → Holds right bound ↔ Overlaps left right
one_bound left right bound is held none = (
  λ h. inl (record { version = bound; in_left = held; in_right = h }),
  λ overlap. elim overlap [
    | inl shared ↦
        let above = above_bound left bound shared.version is shared.in_left in
        down_from right bound shared.version none above shared.in_right
    | inr unbounded ↦ cc (sym is ∙ unbounded.0)
  ],
)

-- where both have one, they overlap where one range holds that of the other
pub two_bounds : (left right : VersionRange) (bound other : Parts) → lower_bound left ≡ Some bound
    → Holds left bound
    → lower_bound right ≡ Some other → Holds right other
    → (Holds left other ⊎ Holds right bound) ↔ Overlaps left right
two_bounds left right bound other is held other_is other_held = (
  λ h. elim h [
    | inl in_left ↦ inl (record { version = other; in_left = in_left; in_right = other_held })
    | inr in_right ↦ inl (record { version = bound; in_left = held; in_right = in_right })
  ],
  λ overlap. elim overlap [
    | inl shared ↦
        let from_left = above_bound left bound shared.version is shared.in_left in
        let from_right = above_bound right other shared.version other_is shared.in_right in
        elim (cases_Bool (is_below other bound)) [
          | inl below ↦
              let at_least = below-at_least other bound below in
              inr (between right other bound shared.version other_held at_least from_left shared.in_right)
          | inr at_least ↦
              inl (between left bound other shared.version held at_least from_right shared.in_left)
        ]
    | inr unbounded ↦ cc (sym is ∙ unbounded.0)
  ],
)
