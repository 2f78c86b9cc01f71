-- What clauses see of the ranges of versions and of the pairs of this library.
use Rattle.semver.specs.Identifiers.{parts_of}
use Rattle.semver.specs.Parse.{Parts}
use Rattle.api_versions.specs.Ranges.{VersionRange, all, from, from_until, until}
use Rattle.api_versions.specs.declared.pair.OrderedVersionPair.{OrderedVersionPair}
use Rattle.api_versions.specs.declared.range.ApiEndpointVersions.{ApiEndpointVersions}
use Rattle.api_versions.specs.declared.range.ApiEndpointVersions.TheVariants as variants

-- the first version of a pair
abbrev pub earliest_of : OrderedVersionPair → Parts
earliest_of pair = parts_of pair.earliest

-- the version below which the pair's versions lie
abbrev pub until_of : OrderedVersionPair → Parts
until_of pair = parts_of pair.until

-- the range, with each version as its numbers and texts
abbrev pub range_of : ApiEndpointVersions → VersionRange
range_of variants.All = all
range_of (variants.From earliest) = from (parts_of earliest)
range_of (variants.FromUntil pair) = from_until (earliest_of pair) (until_of pair)
range_of (variants.Until end) = until (parts_of end)
