-- When the parts of a document are sound: in each map the names are distinct (RFC 8259, section 4), and each schema is
-- sound.
use Rattle.std.specs.Prelude.{⊤, ℕ, List, map, MatchOption}
use Rattle.std.specs.List.{AllByRecursion}
use Rattle.schema_values.specs.Sound.{IsSound, AreDistinct}
use Rattle.openapi_values.specs.declared.document.OpenApi.{OpenApi}
use Rattle.openapi_values.specs.declared.media.MediaType.{MediaType}
use Rattle.openapi_values.specs.declared.parameter.HeaderObject.{HeaderObject}
use Rattle.openapi_values.specs.declared.media.RequestBody.{RequestBody}
use Rattle.openapi_values.specs.declared.media.ResponseObject.{ResponseObject}
use Rattle.openapi_values.specs.declared.operation.Operation.{Operation}
use Rattle.openapi_values.specs.declared.operation.PathItem.{PathItem}
use Rattle.openapi_values.specs.declared.parameter.Parameter.{Parameter}

-- the names of a map
abbrev pub names_of_map : {X : Type 0} → List (List ℕ × X) → List (List ℕ)
names_of_map = map (λ entry. entry.0)

-- a map whose names are distinct and of which each value is sound
abbrev pub IsSoundMap : {X : Type 0} → (X → Type 0) → List (List ℕ × X) → Type 0
IsSoundMap Sound entries = AllByRecursion (λ entry. Sound entry.1) entries × AreDistinct (names_of_map entries)

-- the content of one media type
abbrev pub IsSoundMedia : MediaType → Type 0
IsSoundMedia media = IsSound media.schema

-- a header of a response
abbrev pub IsSoundHeader : HeaderObject → Type 0
IsSoundHeader header = IsSound header.schema

-- a parameter of a request
abbrev pub IsSoundParameter : Parameter → Type 0
IsSoundParameter parameter = IsSound parameter.schema

-- the body of a request
abbrev pub IsSoundBody : RequestBody → Type 0
IsSoundBody body = IsSoundMap IsSoundMedia body.content

-- a response in full; one that is a reference is written as no more
abbrev pub IsSoundResponse : ResponseObject → Type 0
IsSoundResponse response =
    MatchOption response.reference (IsSoundMap IsSoundHeader response.headers × IsSoundMap IsSoundMedia response.content) (λ reference. ⊤)

-- an operation
pub record IsSoundOperation (operation : Operation) : Type 0 where
  pub parameters : AllByRecursion IsSoundParameter operation.parameters
  pub body : MatchOption operation.request_body ⊤ IsSoundBody
  pub responses : IsSoundMap IsSoundResponse operation.responses

-- the operations of one path
pub record IsSoundItem (item : PathItem) : Type 0 where
  pub get : MatchOption item.get ⊤ IsSoundOperation
  pub put : MatchOption item.put ⊤ IsSoundOperation
  pub post : MatchOption item.post ⊤ IsSoundOperation
  pub delete : MatchOption item.delete ⊤ IsSoundOperation
  pub options : MatchOption item.options ⊤ IsSoundOperation
  pub head : MatchOption item.head ⊤ IsSoundOperation
  pub patch : MatchOption item.patch ⊤ IsSoundOperation
  pub trace : MatchOption item.trace ⊤ IsSoundOperation

-- a document
pub record HasSoundParts (document : OpenApi) : Type 0 where
  pub paths : IsSoundMap IsSoundItem document.paths
  pub responses : IsSoundMap IsSoundResponse document.components.responses
  pub schemas : IsSoundMap IsSound document.components.schemas
