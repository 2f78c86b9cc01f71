-- A document admits a body exactly where its JSON denotes a tree.
use Rattle.std.proofs.Common.{◌↔◌, ℕ, List, sym, subst}
use Rattle.schema_values.specs.declared.json_value.Json.{Json}
use Rattle.schema_values.specs.Reading.{Reads}
use Rattle.schema_values.proofs.CallerLemmas.{one_reading, reading_sound}
use Rattle.request_words.specs.declared.request.WireRequest.{WireRequest}
use Rattle.request_words.specs.MediaTypes.{HasJsonType}
use Rattle.openapi_values.specs.declared.document.OpenApi.{OpenApi}
use Rattle.openapi_values.specs.Admits.{Admits}
use Rattle.openapi_values.specs.Document.{open_api_json}
use Rattle.openapi_values.specs.JsonAdmits.{JsonAdmits}
use Rattle.openapi_values.proofs.CallerLemmas.{json_bodies}
use Rattle.descriptors.specs.declared.desc.Desc.{Desc}
use Rattle.descriptors.specs.declared.table.Definition.{Definition}
use Rattle.descriptors.specs.declared.tree.Tree.{Tree}
use Rattle.typed_values.specs.Denotes.{JsonDenotes}
use Rattle.written_schemas.specs.Bodies.{TakesJson}
use Rattle.written_schemas.specs.Written.{IsWritten}
use Rattle.written_schemas.proofs.Whole.{titled_agrees}

pub body_agrees : (document : OpenApi) (path method name : List ℕ) (table : List Definition) (desc : Desc) → TakesJson document path method name table desc → IsWritten (open_api_json document) table desc
    → (request : WireRequest) (json : Json) → HasJsonType request.headers → Reads request.body json → Admits (open_api_json document) path method request ↔ ((tree : Tree) × JsonDenotes table desc json tree)
body_agrees document path method name table desc takes written request json typed reads =
    let doc = open_api_json document in
    let admitted = json_bodies document path method takes.operation takes.body takes.media request takes.listed takes.not_paged takes.no_parameter takes.has_body takes.under_json takes.no_bytes typed in
    let agrees = titled_agrees doc table desc written name json (reading_sound request.body json reads) in (
      λ h. let found = admitted.0 h in
          agrees.0 (subst (λ s. JsonAdmits doc s json) takes.schema_is (subst (λ j. JsonAdmits doc takes.media.schema j) (one_reading request.body found.json json found.reads reads) found.admitted)),
      λ h. admitted.1 (record { has_type = typed; json = json; reads = reads; admitted = subst (λ s. JsonAdmits doc s json) (sym takes.schema_is) (agrees.1 h) }),
    )
