-- What a policy of this library says of header lines, by the meanings of boxed policies.
use Rattle.std.specs.Prelude.{◌≡◌, List, Option, Some, None}
use Rattle.semver.specs.Parse.{Parts}
use Rattle.header_lists.specs.HeaderLists.{Line}
use Rattle.http_status.specs.declared.error.HttpError.{HttpError}
use Rattle.api_versions.specs.declared.policy.DynamicVersionPolicy.{Ghosts}
use Rattle.api_versions.specs.declared.policy.VersionPolicy.{VersionPolicy}
use Rattle.api_versions.specs.declared.policy.VersionPolicy.TheVariants.{Unversioned, Dynamic}

-- the version, if any, that a policy may give for header lines
abbrev pub GivesVersion : {X : Type 0} {F : X → Type 0} → ((x : X) → Ghosts (F x))
    → VersionPolicy X F → List Line → Option Parts → Type 0
GivesVersion m Unversioned lines version = version ≡ None
GivesVersion m (Dynamic policy) lines None = ⊥
GivesVersion m (Dynamic policy) lines (Some version) = (m policy.vtable).extracts policy.value lines version

-- the errors that a policy may refuse header lines with
abbrev pub RefusesLines : {X : Type 0} {F : X → Type 0} → ((x : X) → Ghosts (F x))
    → VersionPolicy X F → List Line → HttpError → Type 0
RefusesLines m Unversioned lines error = ⊥
RefusesLines m (Dynamic policy) lines error = (m policy.vtable).refuses policy.value lines error
