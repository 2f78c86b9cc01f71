-- The version that a request asks for in a header. A header may stand on several lines, of which the first
-- counts (RFC 9110, section 5.3, has them in order). Its value is a text of visible bytes (RFC 9110, section
-- 5.5), and that text a version (Semantic Versioning 2.0.0, sections 2, 9 and 10). What counts where the header is
-- missing, the greatest version and the texts of the faults are rules of this library.
use Rattle.std.specs.Prelude.{◌≡◌, ◌≢◌, ◌++◌, ℕ, List, Option, Some, None, Ok, codes}
use Rattle.std.specs.Str.{chars}
use Rattle.http_header.specs.FieldValue.{FieldValue, IsVisibleAscii}
use Rattle.semver.specs.Identifiers.{parts_text}
use Rattle.semver.specs.Parse.{Parts, version_parts}
use Rattle.header_lists.specs.HeaderLists.{Line, first_of}
use Rattle.http_status.specs.Errors.{bad_request}
use Rattle.http_status.specs.declared.error.HttpError.{HttpError}
use Rattle.api_versions.specs.Order.{IsAtLeast, IsBelow}

-- what a policy that reads a header goes by: the header's name, the greatest version that is served, and the
-- version that counts where the header is missing, if there is one
pub record HeaderPolicy : Type 0 where
  pub name : List ℕ
  pub max_version : Parts
  pub on_missing : Option Parts

-- the text of a value is a version that is served
pub record AsksForServed (policy : HeaderPolicy) (value : FieldValue) (version : Parts) : Type 0 where
  pub visible : IsVisibleAscii value.bytes
  pub read : version_parts value.bytes ≡ Ok version
  pub served : IsAtLeast policy.max_version version

-- the version of a request whose header has this first value
abbrev pub HasVersion : HeaderPolicy → Option FieldValue → Parts → Type 0
HasVersion policy None version = policy.on_missing ≡ Some version
HasVersion policy (Some value) version = AsksForServed policy value version

-- why a request has no version
pub data VersionFault : Type 0 where
  missing : VersionFault
  not_ascii : VersionFault
  not_a_version : VersionFault
  not_served : Parts → VersionFault

-- the text of a value is a version above the greatest that is served
pub record AsksForUnserved (policy : HeaderPolicy) (value : FieldValue) (version : Parts) : Type 0 where
  pub visible : IsVisibleAscii value.bytes
  pub read : version_parts value.bytes ≡ Ok version
  pub above : IsBelow policy.max_version version

-- The fault of a request whose header has this first value: the header is missing and no version counts then;
-- the value is no visible ASCII text; that is no version; that is above the greatest.
abbrev pub HasFault : HeaderPolicy → Option FieldValue → VersionFault → Type 0
HasFault policy None missing = policy.on_missing ≡ None
HasFault policy (Some value) not_ascii = ¬ IsVisibleAscii value.bytes
HasFault policy (Some value) not_a_version =
    IsVisibleAscii value.bytes × ((version : Parts) → version_parts value.bytes ≢ Ok version)
HasFault policy (Some value) (not_served version) = AsksForUnserved policy value version
HasFault policy value fault = ⊥

-- what the client is told of the value of a header, in UTF-8
abbrev pub bad_value_message : List ℕ → List ℕ → List ℕ
bad_value_message name reason = codes "bad value for header \"" ++ name ++ (codes "\": " ++ reason)

-- what the client is told of a version above the greatest, in UTF-8
abbrev pub not_served_message : Parts → List ℕ
not_served_message version = codes "server does not support this API version: " ++ parts_text version

-- what the client is told of a fault, in UTF-8
abbrev pub fault_message : List ℕ → VersionFault → List ℕ
fault_message name missing = codes "missing expected header \"" ++ name ++ codes "\""
fault_message name not_ascii = bad_value_message name (codes "not ASCII")
fault_message name not_a_version = bad_value_message name (codes "not a version")
fault_message name (not_served version) = not_served_message version

-- the answer to a fault: 400 Bad Request (RFC 9110, section 15.5.1)
abbrev pub fault_error : List ℕ → VersionFault → HttpError
fault_error name fault = bad_request None (chars (fault_message name fault))

-- an error is the answer to the fault of a request
pub record AnswersFault (policy : HeaderPolicy) (first : Option FieldValue) (error : HttpError) : Type 0 where
  pub fault : VersionFault
  pub stands : HasFault policy first fault
  pub told : error ≡ fault_error policy.name fault

-- the version that header lines ask for
abbrev pub Extracts : HeaderPolicy → List Line → Parts → Type 0
Extracts policy lines version = HasVersion policy (first_of policy.name lines) version

-- the error that header lines are refused with
abbrev pub Refuses : HeaderPolicy → List Line → HttpError → Type 0
Refuses policy lines error = AnswersFault policy (first_of policy.name lines) error
