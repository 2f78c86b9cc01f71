-- Which of several declared endpoints serves a method and a template at a version.
use Rattle.std.specs.Prelude.{◌≡◌, ℕ, Bool, true, not, ◌&&◌, ◌||◌, List, find, Option, bytes_eq}
use Rattle.std.specs.Ordering.{is_eq}
use Rattle.semver.specs.Parse.{Parts}
use Rattle.api_versions.specs.Order.{is_below, version_cmp}
use Rattle.api_versions.specs.Ranges.{Holds, VersionRange, all, from, from_until, until}
use Rattle.path_templates.specs.Templates.{trimmed}
use Rattle.api_declarations.specs.Values.{DeclarationValue}

-- whether a version is another
abbrev pub is_version : Parts → Parts → Bool
is_version version other = is_eq (version_cmp version other)

-- whether a range holds a version: `Holds`, as a test
abbrev pub holds : VersionRange → Parts → Bool
holds all version = true
holds (from earliest) version = not (is_below version earliest)
holds (from_until earliest end) version =
    not (is_below version earliest) && (is_below version end || (is_version version end && is_version end earliest))
holds (until end) version = is_below version end

-- whether an endpoint serves a method and a template at a version; one slash at the end of a template is dropped
abbrev pub serves : Parts → List ℕ → List ℕ → DeclarationValue → Bool
serves version method template d =
    bytes_eq d.method method && (bytes_eq (trimmed d.path) (trimmed template) && holds d.versions version)

-- what `serves` says
pub record Serves (version : Parts) (method template : List ℕ) (d : DeclarationValue) : Type 0 where
  pub by_method : d.method ≡ method
  pub by_template : trimmed d.path ≡ trimmed template
  pub at_version : Holds d.versions version

-- the first thing whose declaration serves a method and a template at a version
abbrev pub endpoint_for : {A : Type 0} → (A → DeclarationValue) → Parts → List ℕ → List ℕ → List A → Option A
endpoint_for declared version method template = find (λ e. serves version method template (declared e))

-- whether the document of a version lists an endpoint: it is visible, and its range holds the version
abbrev pub is_listed : Parts → DeclarationValue → Bool
is_listed version d = d.visible && holds d.versions version
