-- What a request line may be answered.
use Rattle.std.specs.Prelude.{◌≡◌, ◌⊎◌, ℕ, List, Result, codes}
use Rattle.schema_values.specs.declared.json_value.Json.{Json}
use Rattle.semver.specs.Parse.{Parts}
use Rattle.http_bodies.specs.Bodies.{never_failing}
use Rattle.http_bodies.specs.declared.frame.Frame.{Frame}
use Rattle.tag_config.specs.Configurations.{Configuration}
use Rattle.tree_store.specs.Tables.{Tables}
use Rattle.request_parts.specs.Requests.{Request}
use Rattle.request_lines.specs.RequestLines.{AsksFor, IsBadLine}
use Rattle.reply_lines.specs.ReplyLines.{bytes_of_line, outcome_alone}
use Rattle.api_endpoints.specs.declared.endpoint.ApiEndpoint.{ApiEndpoint}
use Rattle.api_endpoints.specs.Endpoints.{Meanings}
use Rattle.endpoint_answers.specs.declared.outcome.Exchange.{Exchange}
use Rattle.endpoint_answers.specs.declared.outcome.ExchangeError.{ExchangeError}
use Rattle.endpoint_answers.specs.Exchanges.{Answers, Asked, asked, called}
use Rattle.command_line.specs.declared.config.ToolConfig.{ToolConfig}
use Rattle.contract_tool.specs.Outcomes.{Tells}

-- what lines are answered by: the settings of a run, the configuration of tags, the endpoints, and a version
pub record Service (X : Type 0) (F : X → Type 0) : Type 0 where
  pub config : ToolConfig
  pub tags : Configuration
  pub endpoints : List (ApiEndpoint X F)
  pub version : Parts

-- a service by its parts
abbrev pub service : {X : Type 0} {F : X → Type 0} → ToolConfig → Configuration → List (ApiEndpoint X F) → Parts
    → Service X F
service config tags endpoints version =
    record { config = config; tags = tags; endpoints = endpoints; version = version }

-- a request with a body of these frames, in memory, as endpoints are asked with it from a store
abbrev pub asked_with : ToolConfig → Request → List Frame → Tables → Asked
asked_with config request frames store =
    asked (called config.server request store) (never_failing frames) config.frame_budget

-- the line asks for a request, the endpoints answer it, and the reply tells the outcome
pub record IsExchanged {X : Type 0} {F : X → Type 0} (m : Meanings X F) (s : Service X F)
    (before : Tables) (line reply : List ℕ) (after : Tables) : Type 0 where
  pub request : Request
  pub frames : List Frame
  pub outcome : Result Exchange ExchangeError
  pub told : Json
  pub asks_for : AsksFor s.version line request frames
  pub answers : Answers m s.endpoints (asked_with s.config request frames before) outcome after
  pub tells : Tells s.config.frame_budget outcome told
  pub written : reply ≡ bytes_of_line told

-- what the endpoints were asked with, for a line
abbrev pub asked_in : {X : Type 0} {F : X → Type 0} (m : Meanings X F) (s : Service X F) (before : Tables)
    (line reply : List ℕ) (after : Tables) → IsExchanged m s before line reply after → Asked
asked_in m s before line reply after x = asked_with s.config x.request x.frames before

-- What a line may be answered: one that asks for nothing is told so, and leaves the store.
abbrev pub LineAnswers : {X : Type 0} {F : X → Type 0} → Meanings X F → Service X F → Tables → List ℕ → List ℕ
    → Tables → Type 0
LineAnswers m s before line reply after =
    (IsBadLine line × (reply ≡ bytes_of_line (outcome_alone (codes "bad-line"))) × (after ≡ before))
    ⊎ IsExchanged m s before line reply after

-- The line asks for a request, and the endpoints answered it, or ran out of memory and left the store as it was or as
-- after a reply that the handler allows; no reply to the line was made.
pub record LineIsLost {X : Type 0} {F : X → Type 0} (m : Meanings X F) (s : Service X F)
    (before : Tables) (line : List ℕ) (after : Tables) : Type 0 where
  pub request : Request
  pub frames : List Frame
  pub outcome : Result Exchange ExchangeError
  pub asks_for : AsksFor s.version line request frames
  pub answers : Answers m s.endpoints (asked_with s.config request frames before) outcome after
