-- Ranges of versions by their bounds: forms of this library, over the order of versions (Semantic Versioning
-- 2.0.0, section 11).
use Rattle.std.specs.Prelude.{◌≡◌, ◌⊎◌, ⊤, Option, Some, None}
use Rattle.semver.specs.Parse.{Parts}
use Rattle.api_versions.specs.Order.{IsAtLeast, IsBelow}

-- every version; those from one on; those from one on and below another; those below one
pub data VersionRange : Type 0 where
  all : VersionRange
  from : Parts → VersionRange
  from_until : Parts → Parts → VersionRange
  until : Parts → VersionRange

-- A range holds a version. One from a version until the same one holds just that version.
abbrev pub Holds : VersionRange → Parts → Type 0
Holds all version = ⊤
Holds (from earliest) version = IsAtLeast version earliest
Holds (from_until earliest end) version =
    IsAtLeast version earliest × (IsBelow version end ⊎ ((version ≡ end) × (end ≡ earliest)))
Holds (until end) version = IsBelow version end

-- a range is one that a request of this version asks for; every range is where it asks for none
abbrev pub Matches : VersionRange → Option Parts → Type 0
Matches range None = ⊤
Matches range (Some version) = Holds range version

-- the least version of a range, unless it goes down without an end
abbrev pub lower_bound : VersionRange → Option Parts
lower_bound all = None
lower_bound (from earliest) = Some earliest
lower_bound (from_until earliest end) = Some earliest
lower_bound (until end) = None
