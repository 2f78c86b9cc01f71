-- The member `in` of a parameter, by its place (OpenAPI 3.0.3, Parameter Object). Which parameters an operation has is
-- said by `endpoint_metadata`, whose `metadata` tells the same of its slots.
use Rattle.std.specs.Prelude.{ℕ, List, codes}
use Rattle.endpoint_metadata.specs.declared.parameter.ApiEndpointParameterLocation.{ApiEndpointParameterLocation}
use Rattle.endpoint_metadata.specs.declared.parameter.ApiEndpointParameterLocation.TheVariants.{Path, Query, Header}

-- the member `in` of a parameter of a place
abbrev pub location_of : ApiEndpointParameterLocation → List ℕ
location_of Path = codes "path"
location_of Query = codes "query"
location_of Header = codes "header"
