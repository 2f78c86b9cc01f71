-- Which ranges of versions overlap: a rule of this library.
use Rattle.std.specs.Prelude.{◌≡◌, ◌⊎◌, None}
use Rattle.semver.specs.Parse.{Parts}
use Rattle.api_versions.specs.Ranges.{Holds, VersionRange, lower_bound}

-- some version lies in both ranges
pub record SharesVersion (left right : VersionRange) : Type 0 where
  pub version : Parts
  pub in_left : Holds left version
  pub in_right : Holds right version

-- a range goes down without an end
abbrev pub HasNoLowerBound : VersionRange → Type 0
HasNoLowerBound range = lower_bound range ≡ None

-- Two ranges overlap: some version lies in both, or neither has a lower bound. Two ranges without a lower bound
-- overlap even where they end at or below the least version, though no version lies there.
abbrev pub Overlaps : VersionRange → VersionRange → Type 0
Overlaps left right = SharesVersion left right ⊎ (HasNoLowerBound left × HasNoLowerBound right)

-- no version lies in both ranges
abbrev pub ShareNoVersion : VersionRange → VersionRange → Type 0
ShareNoVersion left right = (version : Parts) → Holds left version → ¬ Holds right version
