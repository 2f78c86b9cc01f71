-- How a run ends, by how its session or its document ends.
use Rattle.std.proofs.Common.{◌≡◌, ◌++◌, ℕ, List, [], append-nil, Option, None, Ok, Result, Err, Some}
use Rattle.std.proofs.Common.{inr, refl, sym, ap, subst, ◌∙◌, option_and_then}
use Rattle.std.specs.Io.KnownBytes.{Appends}
use Rattle.std.specs.Str.{encode_utf8_all}
use Rattle.schema_values.specs.Sound.{IsSound}
use Rattle.schema_values.specs.declared.json_value.Json.{Json}
use Rattle.openapi_values.specs.declared.info.Info.{Info}
use Rattle.openapi_values.specs.Admits.{pagination_of}
use Rattle.openapi_values.proofs.CallerLemmas.{pages-stand}
use Rattle.semver.specs.Parse.{Parts}
use Rattle.line_session.specs.Calls.{TookPart}
use Rattle.line_session.specs.Parts.{AppendsPart}
use Rattle.line_session.specs.declared.ends.Sink.{Ghosts as SinkGhosts}
use Rattle.line_session.specs.declared.ends.SinkError.TheVariants as sink_error
use Rattle.http_bodies.specs.declared.frame.Frame.{Frame}
use Rattle.tag_config.specs.Configurations.{Configuration}
use Rattle.tree_store.specs.Tables.{Tables}
use Rattle.request_parts.specs.Requests.{Request}
use Rattle.api_declarations.specs.Values.{DeclarationValue}
use Rattle.api_registration.specs.Accepted.{AreAccepted}
use Rattle.api_documents.specs.Documents.{document_of, errors_of}
use Rattle.api_documents.specs.Listed.{listed}
use Rattle.api_documents.specs.Lists.{IsListed, Lists, ListsWritten}
use Rattle.api_documents.specs.Operations.{operation_of}
use Rattle.api_agreement.specs.Agreement.{Agrees}
use Rattle.api_endpoints.specs.declared.endpoint.ApiEndpoint.{ApiEndpoint}
use Rattle.api_endpoints.specs.Endpoints.{Meanings, declarations_of}
use Rattle.endpoint_answers.specs.Denoting.{IsHandledAsDenoted, IsHandledOrRefused, IsOutcomeCutShort}
use Rattle.endpoint_answers.specs.Exchanges.{Answers, Asked}
use Rattle.endpoint_answers.specs.declared.outcome.Exchange.{Exchange}
use Rattle.endpoint_answers.specs.declared.outcome.ExchangeError.{ExchangeError}
use Rattle.endpoint_answers.specs.declared.outcome.ExchangeError.TheVariants as failed
use Rattle.api_descriptions.specs.Agreement.{FollowsDocument, IsValidFor}
use Rattle.api_descriptions.specs.Information.{info_of}
use Rattle.api_descriptions.specs.Written.{document_at, document_text}
use Rattle.api_descriptions.specs.declared.description.ApiDescription.{ApiDescription}
use Rattle.command_line.specs.declared.config.ToolConfig.{ToolConfig}
use Rattle.command_line.specs.declared.config.ToolStatus.{ToolStatus}
use Rattle.command_line.specs.declared.config.ToolStatus.TheVariants.{Done}
use Rattle.contract_tool.specs.Ends.{DocumentEnds}
use Rattle.contract_tool.specs.LineAnswers.{IsExchanged, Service, asked_in, asked_with, service}
use Rattle.contract_tool.specs.Outcomes.{Tells}
use Rattle.contract_tool.specs.Sessions.{IsDocumented, IsOpened, IsValidTo, info_at, preamble_of, written_document}

-- ---- ends of documents

module _ {K : Type 0} (sink : SinkGhosts K) (before after : K) (bytes : List ℕ) where
  pub written_whole : (result : ToolStatus) → DocumentEnds sink before after bytes result → result ≡ Done
      → Appends (sink.taken before) (sink.taken after) bytes
  written_whole result ends is = (subst (DocumentEnds sink before after bytes) is ends).0

keeps_all : (known : Option (List ℕ)) → Appends known known []
keeps_all None = tt
keeps_all (Some bytes) = sym (append-nil bytes)

-- nothing is a part of any bytes
pub part_none : (known : Option (List ℕ)) (bytes : List ℕ) → AppendsPart known known bytes
part_none known bytes = record { part = []; more = bytes; appended = keeps_all known; front = refl }

-- no call took nothing
pub took_none : {K : Type 0} (sink : SinkGhosts K) (at : K) (bytes : List ℕ)
    → TookPart sink at bytes sink_error.OutOfMemory at
took_none sink at bytes = ([], bytes, refl, inr (refl, record { pieces = []; calls = refl; whole = refl }))

-- the bytes of a document that was made of an API, under the title of the settings
module _ {X : Type 0} {F : X → Type 0} (m : Meanings X F) (config : ToolConfig) where
  abbrev bytes_at : ApiDescription X F → Info → Parts → List ℕ
  bytes_at api info version = encode_utf8_all (document_text m api.tags api.endpoints.items info version)

  pub written_at : (api : ApiDescription X F) (info : Info) (read copied at : Parts) {made : ApiDescription X F}
      {title : List ℕ} → made ≡ api → info ≡ info_of title copied → config.title ≡ title → read ≡ copied → copied ≡ at
      → bytes_at made info read ≡ preamble_of m (service config api.tags api.endpoints.items at)
  written_at api info read copied at same_api same_info same_title same_version once =
      let about = same_info ∙ ap (λ (t : List ℕ). info_of t copied) (sym same_title)
      ∙ ap (λ (v : Parts). info_of config.title v) once in
      ap (λ (a : ApiDescription X F). bytes_at a info read) same_api
      ∙ ap (λ (i : Info). bytes_at api i read) about
      ∙ ap (λ (v : Parts). bytes_at api (info_of config.title at) v) (same_version ∙ once)

-- what is known behind bytes that were known
pub appended : (taken : Option (List ℕ)) (written bytes : List ℕ) (before : Option (List ℕ)) → before ≡ Some written
    → Appends before taken bytes → taken ≡ Some (written ++ bytes)
appended None written bytes before is grown = absurd (subst (λ (o : Option (List ℕ)). Appends o None bytes) is grown)
appended (Some now) written bytes before is grown =
    ap Some (subst (λ (o : Option (List ℕ)). Appends o (Some now) bytes) is grown)

-- ---- what is opened

module _ {X : Type 0} {F : X → Type 0} (m : Meanings X F) (s : Service X F) where
  -- no line is cut short: want of memory is told by no line, and a body in memory does not fail
  not_cut : (request : Request) (frames : List Frame) (before after : Tables) (outcome : Result Exchange ExchangeError)
      (told : Json) → Answers m s.endpoints (asked_with s.config request frames before) outcome after
      → Tells s.config.frame_budget outcome told → ¬ IsOutcomeCutShort outcome
  not_cut request frames before after (Ok exchange) told answers tells cut = cut
  not_cut request frames before after (Err failed.OutOfMemory) told answers tells cut = tells
  not_cut request frames before after (Err (failed.BodyFault response)) told answers tells cut =
      let can_fail = answers.2.0.can_fail in cc can_fail
  not_cut request frames before after (Err failed.BadRequestId) told answers tells cut = cut
  not_cut request frames before after (Err failed.NoSuchOperation) told answers tells cut = cut
  not_cut request frames before after (Err failed.WrongVariables) told answers tells cut = cut
  not_cut request frames before after (Err (failed.BodyTooLarge sum response)) told answers tells cut = cut
  not_cut request frames before after (Err (failed.FrameBudget count)) told answers tells cut = cut

  -- a line asks at the version of the session
  valid_for : (before : Tables) (line reply : List ℕ) (after : Tables) (x : IsExchanged m s before line reply after)
      (d : DeclarationValue) → IsValidTo m s d (asked_in m s before line reply after x)
      → IsValidFor s.version (declarations_of m s.endpoints) d (asked_in m s before line reply after x)
  valid_for before line reply after x d valid = record {
    listed = valid.listed;
    serves = valid.serves;
    at_version = ap (λ (request : Request). request.version) x.asks_for.are_made.made;
    valid = valid.valid;
    no_token = valid.no_token;
  }

  module _ (accepted : AreAccepted s.tags [] (declarations_of m s.endpoints)) (sound : IsSound (written_document m s))
      (lists : Lists (errors_of (listed s.version (declarations_of m s.endpoints)))
      (document_of (declarations_of m s.endpoints) s.tags.tags (info_at s) s.version)
      s.version (declarations_of m s.endpoints))
      (in_text : ListsWritten (errors_of (listed s.version (declarations_of m s.endpoints))) (written_document m s)
      s.version (declarations_of m s.endpoints))
      (agreed : (d : DeclarationValue) → IsListed s.version (declarations_of m s.endpoints) d
      → Agrees (written_document m s) d) where
    documented : IsDocumented m s
    documented = record {
      accepted = accepted;
      sound = sound;
      lists = lists;
      written = in_text;
      pages = λ d is_listed.
          ap (option_and_then pagination_of) (in_text.each d is_listed)
          ∙ pages-stand (operation_of (errors_of (listed s.version (declarations_of m s.endpoints))) d);
      agreed = agreed;
    }

    opened : ((asked : Asked) (outcome : Result Exchange ExchangeError) (after : Tables)
        → Answers m s.endpoints asked outcome after
        → FollowsDocument m s.endpoints (written_document m s) s.version asked outcome after)
        → ((asked : Asked) (outcome : Result Exchange ExchangeError) (after : Tables)
        → Answers m s.endpoints asked outcome after → IsHandledAsDenoted m s.endpoints asked outcome)
        → ((asked : Asked) (outcome : Result Exchange ExchangeError) (after : Tables)
        → Answers m s.endpoints asked outcome after → IsHandledOrRefused m s.endpoints asked outcome)
        → IsOpened m s
    opened followed denoted told = record {
      documented = documented;
      followed = λ before line reply after x d valid.
          followed (asked_with s.config x.request x.frames before) x.outcome after x.answers d
          (valid_for before line reply after x d valid)
          (not_cut x.request x.frames before after x.outcome x.told x.answers x.tells);
      denoted = λ before line reply after x e named valid.
          let asked = asked_with s.config x.request x.frames before in
          let whole = not_cut x.request x.frames before after x.outcome x.told x.answers x.tells in record {
            handled = denoted asked x.outcome after x.answers e named valid whole;
            answered = told asked x.outcome after x.answers e named valid whole;
          };
    }

-- an API serves what it was made of, at the version that is asked for
pub service_as : {X : Type 0} {F : X → Type 0} (config : ToolConfig) {tags made_tags : Configuration}
    {endpoints made : List (ApiEndpoint X F)} {read asked : Parts} → made_tags ≡ tags → made ≡ endpoints → read ≡ asked
    → service config made_tags made read ≡ service config tags endpoints asked
service_as config same_tags same_endpoints once = rw (same_tags, same_endpoints, once) refl

-- What an API tells of its document and of its answers holds of the endpoints that it was made of.
module _ {X : Type 0} {F : X → Type 0} (m : Meanings X F) (config : ToolConfig) {tags made_tags : Configuration}
    {endpoints made : List (ApiEndpoint X F)} (version : Parts) (same_tags : made_tags ≡ tags)
    (same_endpoints : made ≡ endpoints) (accepted : AreAccepted tags [] (declarations_of m endpoints))
    (sound : (info : Info) (at : Parts) → IsSound (document_at m made_tags made info at))
    (lists : (info : Info) (at : Parts) → Lists (errors_of (listed at (declarations_of m made)))
    (document_of (declarations_of m made) made_tags.tags info at) at (declarations_of m made))
    (in_text : (info : Info) (at : Parts) → ListsWritten (errors_of (listed at (declarations_of m made)))
    (document_at m made_tags made info at) at (declarations_of m made))
    (agreed : (info : Info) (at : Parts) (d : DeclarationValue) → IsListed at (declarations_of m made) d
    → Agrees (document_at m made_tags made info at) d) where
  abbrev mine : Service X F
  mine = service config made_tags made version

  same : mine ≡ service config tags endpoints version
  same = service_as config same_tags same_endpoints refl

  pub documented_as : IsDocumented m (service config tags endpoints version)
  documented_as =
      subst (IsDocumented m) same
      (documented m mine (rw (same_tags, same_endpoints) accepted) (sound (info_at mine) version)
      (lists (info_at mine) version) (in_text (info_at mine) version) (agreed (info_at mine) version))

  pub opened_as : ((info : Info) (at : Parts) (asked : Asked) (outcome : Result Exchange ExchangeError) (after : Tables)
      → Answers m made asked outcome after
      → FollowsDocument m made (document_at m made_tags made info at) at asked outcome after)
      → ((asked : Asked) (outcome : Result Exchange ExchangeError) (after : Tables)
      → Answers m made asked outcome after → IsHandledAsDenoted m made asked outcome)
      → ((asked : Asked) (outcome : Result Exchange ExchangeError) (after : Tables)
      → Answers m made asked outcome after → IsHandledOrRefused m made asked outcome)
      → IsOpened m (service config tags endpoints version)
  opened_as followed denoted told =
      subst (IsOpened m) same
      (opened m mine (rw (same_tags, same_endpoints) accepted) (sound (info_at mine) version)
      (lists (info_at mine) version) (in_text (info_at mine) version) (agreed (info_at mine) version)
      (followed (info_at mine) version) denoted told)
