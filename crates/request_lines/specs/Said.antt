-- What the values of a line say, by the form of their JSON.
use Rattle.std.specs.Prelude.{◌≡◌, false, ℕ, List, [], ◌∷◌, Option, Some, MatchOption, bytes_eq, codes}
use Rattle.std.specs.List.{AllZip}
use Rattle.header_lists.specs.HeaderLists.{Line}
use Rattle.schema_values.specs.declared.json_value.Json.{Json}
use Rattle.schema_values.specs.declared.json_value.Json.TheVariants as jsons
use Rattle.schema_values.specs.declared.json_value.Member.{Member}
use Rattle.schema_values.specs.declared.variables.VariableValue.{VariableValue}
use Rattle.schema_values.specs.declared.variables.VariableValue.TheVariants.{String, Components}
use Rattle.schema_values.specs.Member.{name_of}
use Rattle.schema_values.specs.Order.{sorted_by}
use Rattle.typed_values.specs.Denotes.{value_named}
use Rattle.http_bodies.specs.declared.frame.Frame.{Frame}
use Rattle.request_parts.specs.declared.info.RequestInfo.{RequestInfo}
use Rattle.request_lines.specs.RequestLines.{IsFieldLine, IsFrame, IsHeadOf, Members, WrittenFrame, WrittenLine}
use Rattle.request_lines.specs.RequestLines.{as_hex, as_text, field_line}

-- a value is a text
abbrev pub IsText : Json → List ℕ → Type 0
IsText json text = json ≡ jsons.Text text

-- the items of a list, none where there is no value
abbrev pub AreItems : Option Json → List Json → Type 0
AreItems value items = MatchOption value (items ≡ []) (λ json. json ≡ jsons.List items)

-- the members of an object, none where there is no value
abbrev pub AreMembers : Option Json → List Member → Type 0
AreMembers value members = MatchOption value (members ≡ []) (λ json. json ≡ jsons.Object members)

-- what one member of a name leaves of the others: each other name has the value that it had
abbrev pub KeepsOthers : List ℕ → List Member → List Member → Type 0
KeepsOthers name members left = (other : List ℕ) → bytes_eq name other ≡ false
    → value_named left other ≡ value_named members other

-- ---- the parts of a line

-- what a variable stands for: a text, or a list of texts
abbrev pub SaysVariable : Json → VariableValue → Type 0
SaysVariable json (String text) = IsText json text
SaysVariable json (Components texts) = (items : List Json) × (json ≡ jsons.List items) × AllZip IsText items texts

-- a member names a variable, and says what it stands for
abbrev pub SaysEntry : Member → List ℕ × VariableValue → Type 0
SaysEntry member entry = (member.name ≡ entry.0) × SaysVariable member.value entry.1

-- a target, the root where there is no value
abbrev pub SaysTarget : Option Json → List ℕ → Type 0
SaysTarget value target = MatchOption value (target ≡ codes "/") (λ json. IsText json target)

-- a header line: a list of a name and a value
abbrev pub SaysLine : Json → WrittenLine → Type 0
SaysLine json line = json ≡ jsons.List (jsons.Text line.0 ∷ jsons.Text line.1 ∷ [])

-- a frame: a text, or an object with digits under `hex`
abbrev pub SaysFrame : Json → WrittenFrame → Type 0
SaysFrame json (as_text text) = IsText json text
SaysFrame json (as_hex digits) = (members : List Member) × (json ≡ jsons.Object members)
    × (value_named members (codes "hex") ≡ Some (jsons.Text digits))

-- ---- what is made of them

-- a header line is one, and this is made of it
abbrev pub IsFieldOf : WrittenLine → Line → Type 0
IsFieldOf line made = IsFieldLine line × (made ≡ field_line line)

-- the line of a header that a value says
abbrev pub IsLineOf : Json → Line → Type 0
IsLineOf json made = (line : WrittenLine) × SaysLine json line × IsFieldOf line made

-- the frame that a value says
abbrev pub IsFrameOf : Json → Frame → Type 0
IsFrameOf json frame = (written : WrittenFrame) × SaysFrame json written × IsFrame written frame

-- ---- the whole line

-- some members say the head of a request
pub record SaysHead (members : List Member) (method target : List ℕ) (lines : List WrittenLine) : Type 0 where
  pub method_said : value_named members (codes "method") ≡ Some (jsons.Text method)
  pub target_said : SaysTarget (value_named members (codes "uri")) target
  pub headers : List Json
  pub headers_are : AreItems (value_named members (codes "headers")) headers
  pub headers_said : AllZip SaysLine headers lines

-- some members say the head of a request, of which this is made
abbrev pub IsHeadIn : List Member → RequestInfo → Type 0
IsHeadIn members info = (method : List ℕ) × (target : List ℕ) × (lines : List WrittenLine)
    × SaysHead members method target lines × IsHeadOf method target lines info

-- some members say what a line says of a request
pub record Says (members : List Member) (said : Members) : Type 0 where
  pub head : SaysHead members said.method said.uri said.headers
  pub template : value_named members (codes "template") ≡ Some (jsons.Text said.template)
  pub request_id : value_named members (codes "request_id") ≡ Some (jsons.Text said.request_id)
  pub variables : List Member
  pub variables_are : AreMembers (value_named members (codes "variables")) variables
  pub variables_said : AllZip SaysEntry (sorted_by name_of variables) said.variables
  pub frames : List Json
  pub frames_are : AreItems (value_named members (codes "frames")) frames
  pub frames_said : AllZip SaysFrame frames said.frames

-- an object whose members say it
abbrev pub SaysMembers : Json → Members → Type 0
SaysMembers json said = (members : List Member) × (json ≡ jsons.Object members) × Says members said
