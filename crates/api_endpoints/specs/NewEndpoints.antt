-- What a new endpoint is made of, and why there is none.
use Rattle.std.specs.Prelude.{◌≡◌, ◌≢◌, ⊤, ℕ, true, false, List, [], None}
use Rattle.std.specs.Str.{chars}
use Rattle.handler_shapes.specs.declared.shape.HandlerShape.{HandlerShape}
use Rattle.request_parts.specs.ContentTypes.{kind_of}
use Rattle.endpoint_metadata.specs.Modes.{AskDifferently, first_asked, mode_of}
use Rattle.endpoint_metadata.specs.Parameters.{listed_parameters}
use Rattle.endpoint_metadata.specs.Values.{parameter_values}
use Rattle.endpoint_metadata.specs.WellTyped.{AreWellTyped}
use Rattle.endpoint_metadata.specs.declared.extension.ExtensionMode.TheVariants as extension
use Rattle.api_endpoints.specs.declared.endpoint.ApiEndpoint.{ApiEndpoint}
use Rattle.api_endpoints.specs.declared.new_error.NewEndpointError.{NewEndpointError}
use Rattle.api_endpoints.specs.declared.new_error.NewEndpointError.TheVariants as refused

-- documents show the endpoint, without texts and tags, and nothing else is said of it
pub record HasNoFurtherWords {X : Type 0} {F : X → Type 0} (e : ApiEndpoint X F) : Type 0 where
  pub body_limit : e.request_body_max_bytes ≡ None
  pub summary : e.summary ≡ None
  pub description : e.description ≡ None
  pub visible : e.visible ≡ true
  pub deprecated : e.deprecated ≡ false
  pub tags : e.tags ≡ []

-- The parameters of an endpoint, and whether it answers in pages, are those of the slots of a shape, where its types
-- pass their checks and parameters are structs; nothing is told where it is not so.
pub record TellsSlots {X : Type 0} {F : X → Type 0} (shape : HandlerShape) (e : ApiEndpoint X F) : Type 0 where
  pub parameters : AreWellTyped shape.table shape.slots
      → parameter_values e.parameters ≡ listed_parameters e.body_content_type shape.table shape.slots
  pub mode : AreWellTyped shape.table shape.slots → e.extension_mode ≡ mode_of (first_asked shape.table shape.slots)
  pub no_parameters : ¬ AreWellTyped shape.table shape.slots → e.parameters ≡ []
  pub no_mode : ¬ AreWellTyped shape.table shape.slots → e.extension_mode ≡ extension.None

-- the types of a shape pass their checks, parameters are structs, and two slots of pages ask for different names
pub record HasIncompatibleModes (shape : HandlerShape) : Type 0 where
  pub well_typed : AreWellTyped shape.table shape.slots
  pub differ : AskDifferently shape.table shape.slots

-- there is an endpoint of a media type, in UTF-8, and of a shape: bodies have the media type, and the modes go together
pub record MayBeMade (media : List ℕ) (shape : HandlerShape) : Type 0 where
  pub supported : kind_of media ≢ None
  pub compatible : ¬ HasIncompatibleModes shape

-- Why there is no endpoint of a media type and a shape. The media type is looked at first, and is told by its text.
-- Want of memory has no cause here.
abbrev pub IsWhyNotMade : List ℕ → HandlerShape → NewEndpointError → Type 0
IsWhyNotMade media shape (refused.UnsupportedMime text) = (kind_of media ≡ None) × (text ≡ chars media)
IsWhyNotMade media shape refused.IncompatibleModes = (kind_of media ≢ None) × HasIncompatibleModes shape
IsWhyNotMade media shape refused.OutOfMemory = ⊤
