-- What a run writes and leaves: a document, and a reply line for each request line.
use Rattle.std.specs.Prelude.{◌≡◌, ◌↔◌, ℕ, IsOk, List, [], ◌++◌, Option, Some, Result, option_and_then, option_map}
use Rattle.std.specs.Str.{encode_utf8_all}
use Rattle.line_session.specs.Session.{IsAnswered}
use Rattle.schema_values.specs.Sound.{IsSound}
use Rattle.schema_values.specs.declared.json_value.Json.{Json}
use Rattle.openapi_values.specs.declared.info.Info.{Info}
use Rattle.openapi_values.specs.Admits.{operation_at, pagination_of}
use Rattle.openapi_values.specs.Operation.{pagination_json}
use Rattle.tag_config.specs.Configurations.{Configuration}
use Rattle.tree_store.specs.Tables.{Tables}
use Rattle.api_declarations.specs.Serving.{Serves}
use Rattle.api_declarations.specs.Values.{DeclarationValue}
use Rattle.api_registration.specs.Accepted.{AreAccepted}
use Rattle.endpoint_metadata.specs.Modes.{first_asked}
use Rattle.api_documents.specs.Documents.{document_of, errors_of}
use Rattle.api_documents.specs.Listed.{listed, path_of}
use Rattle.api_documents.specs.Lists.{IsListed, Lists, ListsWritten}
use Rattle.api_agreement.specs.Agreement.{Agrees, SendsNoToken}
use Rattle.api_endpoints.specs.declared.endpoint.ApiEndpoint.{ApiEndpoint}
use Rattle.api_endpoints.specs.Endpoints.{Meanings, declaration_of, declarations_of}
use Rattle.endpoint_answers.specs.Denoting.{IsDenoting, IsValid, WasHandled}
use Rattle.endpoint_answers.specs.Exchanges.{Asked, named_by, sent_by}
use Rattle.endpoint_answers.specs.declared.outcome.Exchange.{Exchange}
use Rattle.endpoint_answers.specs.declared.outcome.ExchangeError.{ExchangeError}
use Rattle.api_descriptions.specs.Agreement.{IsHandledAsAdmitted}
use Rattle.api_descriptions.specs.Information.{info_of}
use Rattle.api_descriptions.specs.Written.{document_at, document_text}
use Rattle.contract_tool.specs.LineAnswers.{IsExchanged, LineAnswers, Service, asked_in}

-- ---- the document

-- endpoints are accepted under a configuration of tags: each in turn may be registered behind those before it
abbrev pub AreAcceptedUnder : {X : Type 0} {F : X → Type 0} → Meanings X F → Configuration → List (ApiEndpoint X F)
    → Type 0
AreAcceptedUnder m tags endpoints = AreAccepted tags [] (declarations_of m endpoints)

-- what is said of the API as a whole: the title of the settings, and the version
abbrev pub info_at : {X : Type 0} {F : X → Type 0} → Service X F → Info
info_at s = info_of s.config.title s.version

-- the document, and its text as it is written, with a newline
abbrev pub written_document : {X : Type 0} {F : X → Type 0} → Meanings X F → Service X F → Json
written_document m s = document_at m s.tags s.endpoints (info_at s) s.version

abbrev pub preamble_of : {X : Type 0} {F : X → Type 0} → Meanings X F → Service X F → List ℕ
preamble_of m s = encode_utf8_all (document_text m s.tags s.endpoints (info_at s) s.version)

-- Under `x-dropshot-pagination` the operation of an endpoint has the names that a request for the first page must have,
-- where the endpoint answers in pages, and else nothing.
abbrev pub ShowsPages : Json → DeclarationValue → Type 0
ShowsPages document d = option_and_then pagination_of (operation_at document (path_of d) d.method)
    ≡ option_map pagination_json (first_asked d.shape.table d.shape.slots)

-- The endpoints are accepted. The document is sound JSON, and lists exactly those that are visible and whose ranges
-- hold the version, each once; what is written has the operation of each at its path and method, and none at others. Of
-- the requests to each of these it admits, where they send no page token, exactly the ones that denote arguments.
pub record IsDocumented {X : Type 0} {F : X → Type 0} (m : Meanings X F) (s : Service X F) : Type 0 where
  pub accepted : AreAcceptedUnder m s.tags s.endpoints
  pub sound : IsSound (written_document m s)
  pub lists : Lists (errors_of (listed s.version (declarations_of m s.endpoints)))
      (document_of (declarations_of m s.endpoints) s.tags.tags (info_at s) s.version)
      s.version (declarations_of m s.endpoints)
  pub written : ListsWritten (errors_of (listed s.version (declarations_of m s.endpoints)))
      (written_document m s) s.version (declarations_of m s.endpoints)
  pub pages : (d : DeclarationValue) → IsListed s.version (declarations_of m s.endpoints) d
      → ShowsPages (written_document m s) d
  pub agreed : (d : DeclarationValue) → IsListed s.version (declarations_of m s.endpoints) d
      → Agrees (written_document m s) d

-- ---- what lines are answered

-- a valid request, without a page token, to an operation of the document; the operation is an endpoint's
pub record IsValidTo {X : Type 0} {F : X → Type 0} (m : Meanings X F) (s : Service X F) (d : DeclarationValue)
    (a : Asked) : Type 0 where
  pub listed : IsListed s.version (declarations_of m s.endpoints) d
  pub serves : Serves s.version a.call.request.info.method a.call.request.template d
  pub valid : IsValid d a
  pub no_token : SendsNoToken d (sent_by a)

-- Whatever line is answered, from whatever store: a valid request to an operation of the document that sends no page
-- token is handled exactly where the document admits it, which is exactly where it denotes arguments; then the response
-- encodes a reply that the handler of this very operation allows on them.
abbrev pub LinesFollowDocument : {X : Type 0} {F : X → Type 0} → Meanings X F → Service X F → Type 0
LinesFollowDocument m s = (before : Tables) (line reply : List ℕ) (after : Tables)
    (x : IsExchanged m s before line reply after) (d : DeclarationValue)
    → IsValidTo m s d (asked_in m s before line reply after x)
    → IsHandledAsAdmitted m s.endpoints (written_document m s) d (asked_in m s before line reply after x)
    x.outcome after

-- a valid request to an endpoint is handled exactly where it denotes arguments, and refused otherwise
pub record IsAnsweredAsDenoted (d : DeclarationValue) (a : Asked) (outcome : Result Exchange ExchangeError)
    : Type 0 where
  pub handled : WasHandled outcome ↔ IsDenoting d a
  pub answered : IsOk outcome

-- And so is whatever line asks any endpoint for a valid request, a hidden one or with a page token too.
abbrev pub LinesAreAnsweredAsDenoted : {X : Type 0} {F : X → Type 0} → Meanings X F → Service X F → Type 0
LinesAreAnsweredAsDenoted m s = (before : Tables) (line reply : List ℕ) (after : Tables)
    (x : IsExchanged m s before line reply after) (e : ApiEndpoint _ _)
    → named_by m s.endpoints x.request ≡ Some e
    → IsValid (declaration_of m e) (asked_in m s before line reply after x)
    → IsAnsweredAsDenoted (declaration_of m e) (asked_in m s before line reply after x) x.outcome

-- what is written of the endpoints and what is answered by them agree
pub record IsOpened {X : Type 0} {F : X → Type 0} (m : Meanings X F) (s : Service X F) : Type 0 where
  pub documented : IsDocumented m s
  pub followed : LinesFollowDocument m s
  pub denoted : LinesAreAnsweredAsDenoted m s

-- ---- what is written

-- the document, and then a reply to each line of all bytes, from the store before to the one after; nothing is left
pub record IsSession {X : Type 0} {F : X → Type 0} (m : Meanings X F) (s : Service X F)
    (all earlier : List ℕ) (left_after taken_after : Option (List ℕ)) (before after : Tables) : Type 0 where
  pub opened : IsOpened m s
  pub answered : IsAnswered (LineAnswers m s) (preamble_of m s) all earlier left_after taken_after before after

-- the document alone, behind what was written before
pub record IsDocumentWritten {X : Type 0} {F : X → Type 0} (m : Meanings X F) (s : Service X F)
    (earlier : List ℕ) (taken_after : Option (List ℕ)) : Type 0 where
  pub documented : IsDocumented m s
  pub document : taken_after ≡ Some (earlier ++ preamble_of m s)
