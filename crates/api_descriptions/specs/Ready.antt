-- An API whose endpoints were registered: `new` gives it, `tag_config` and `register` keep it, and exchanges and
-- documents ask for it. No field of an API can keep it, since it speaks of the handlers in boxes.
use Rattle.endpoint_checks.specs.EndpointIndexes.{IsIndexed}
use Rattle.api_registration.specs.Accepted.{AreRegistered}
use Rattle.api_endpoints.specs.Endpoints.{Meanings, declarations_of}
use Rattle.api_descriptions.specs.declared.description.ApiDescription.{ApiDescription}

-- the endpoints were registered, and the index is theirs
pub record IsReady {X : Type 0} {F : X → Type 0} (m : Meanings X F) (api : ApiDescription X F) : Type 0 where
  pub registered : AreRegistered (declarations_of m api.endpoints.items)
  pub indexed : IsIndexed (declarations_of m api.endpoints.items) api.index
