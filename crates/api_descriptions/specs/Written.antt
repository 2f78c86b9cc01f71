-- The document of endpoints as it is written, and the calls of a sink that write it.
use Rattle.std.specs.Prelude.{⊤, ℕ, List, [], ◌∷◌, ◌++◌, Result, Ok, Err}
use Rattle.schema_values.specs.declared.json_value.Json.{Json}
use Rattle.schema_values.specs.Pretty.{pretty_of}
use Rattle.line_session.specs.Calls.{Took, TookPart}
use Rattle.line_session.specs.declared.ends.Sink.{Ghosts as SinkGhosts}
use Rattle.line_session.specs.declared.ends.SinkError.TheVariants as sink_error
use Rattle.openapi_values.specs.declared.info.Info.{Info}
use Rattle.semver.specs.Parse.{Parts}
use Rattle.tag_config.specs.Configurations.{Configuration}
use Rattle.api_documents.specs.Documents.{document_json_of}
use Rattle.api_endpoints.specs.declared.endpoint.ApiEndpoint.{ApiEndpoint}
use Rattle.api_endpoints.specs.Endpoints.{Meanings, declarations_of}
use Rattle.api_descriptions.specs.declared.definition.WriteError.{WriteError}
use Rattle.api_descriptions.specs.declared.definition.WriteError.TheVariants.{WriteFault, OutOfMemory}

-- the document of endpoints at a version, as JSON
abbrev pub document_at :
    {X : Type 0} {F : X → Type 0} → Meanings X F → Configuration → List (ApiEndpoint X F) → Info → Parts → Json
document_at m tags endpoints info version = document_json_of (declarations_of m endpoints) tags.tags info version

-- its pretty text, and a newline
abbrev pub document_text :
    {X : Type 0} {F : X → Type 0} → Meanings X F → Configuration → List (ApiEndpoint X F) → Info → Parts → List ℕ
document_text m tags endpoints info version = pretty_of (document_at m tags endpoints info version) ++ 10 ∷ []

-- calls of a sink took all of these bytes, or up to an error a part of them from the front
abbrev pub WritesBy : {K : Type 0} → SinkGhosts K → List ℕ → K → K → Result ⊤ WriteError → Type 0
WritesBy sink bytes old new (Ok done) = Took sink old bytes new
WritesBy sink bytes old new (Err WriteFault) = TookPart sink old bytes sink_error.Failed new
WritesBy sink bytes old new (Err OutOfMemory) = TookPart sink old bytes sink_error.OutOfMemory new
