-- Request lines: JSON objects that denote a record of members, of which a request and the frames of its body are made.
use Rattle.std.specs.Prelude.{◌≡◌, ℕ, false, List, [], ◌∷◌, map, Some, None, codes, Ok}
use Rattle.std.specs.List.{All, AllZip}
use Rattle.std.specs.Str.{encode_utf8_all}
use Rattle.hex.specs.Hex.{decode_of}
use Rattle.http.specs.declared.version.TheConstants.Version.{HTTP_11}
use Rattle.header_lists.specs.HeaderLists.{Line}
use Rattle.http_header.specs.FieldName.{IsFieldName}
use Rattle.http_header.specs.FieldValue.{IsFieldValue, plain_value}
use Rattle.http_header.specs.Token.{IsToken, lowercase}
use Rattle.http_uri.specs.Uri.{Spells}
use Rattle.http_uri.specs.declared.uri.Uri.{Uri}
use Rattle.schema_values.specs.declared.json_value.Json.{Json}
use Rattle.schema_values.specs.declared.variables.VariableValue.{VariableValue}
use Rattle.schema_values.specs.declared.variables.VariableValue.TheVariants.{String, Components}
use Rattle.schema_values.specs.Reading.{Reads}
use Rattle.descriptors.specs.declared.desc.Desc.{Desc}
use Rattle.descriptors.specs.declared.desc.Desc.TheVariants as descs
use Rattle.descriptors.specs.declared.desc.Field.{Field}
use Rattle.descriptors.specs.declared.tree.Tree.{Tree}
use Rattle.descriptors.specs.declared.tree.Tree.TheVariants as trees
use Rattle.typed_values.specs.Denotes.{JsonDenotes}
use Rattle.api_types.specs.Heads.{required, with_default}
use Rattle.api_types.specs.Maps.{pair_of}
use Rattle.api_types.specs.StructTypes.{field_with}
use Rattle.http_bodies.specs.declared.frame.Frame.{Frame}
use Rattle.http_bodies.specs.declared.frame.Frame.TheVariants.{Bytes}
use Rattle.request_parts.specs.Requests.{Request, Variables}
use Rattle.request_parts.specs.declared.info.RequestInfo.{RequestInfo}
use Rattle.semver.specs.Parse.{Parts}

-- ---- the members of a line

-- a text of any length
abbrev pub any_text : Desc
any_text = descs.Text None None None

-- a list of texts
abbrev pub texts : Desc
texts = descs.List any_text None None

-- what a variable of a path stands for: a text, or the components that are left of the path
abbrev pub variable_desc : Desc
variable_desc = descs.Untagged (any_text ∷ texts ∷ [])

-- a header line: a name and a value
abbrev pub line_desc : Desc
line_desc = descs.List any_text (Some 2) (Some 2)

-- bytes as hexadecimal digits, under `hex`
abbrev pub digits_desc : Desc
digits_desc = descs.Struct (field_with (required (codes "hex")) any_text ∷ []) false

-- a frame: a text, or such bytes
abbrev pub frame_desc : Desc
frame_desc = descs.Untagged (any_text ∷ digits_desc ∷ [])

-- Three members have to be there; the others have defaults.
abbrev pub members_fields : List Field
members_fields =
    field_with (required (codes "method")) any_text
    ∷ field_with (required (codes "template")) any_text
    ∷ field_with (required (codes "request_id")) any_text
    ∷ field_with (with_default (codes "uri") (trees.Text (codes "/"))) any_text
    ∷ field_with (with_default (codes "variables") (trees.Map [])) (descs.Map variable_desc)
    ∷ field_with (with_default (codes "headers") (trees.List [])) (descs.List line_desc None None)
    ∷ field_with (with_default (codes "frames") (trees.List [])) (descs.List frame_desc None None)
    ∷ []

-- the members of a line; other members are ignored
abbrev pub members_desc : Desc
members_desc = descs.Struct members_fields false

-- a header line as it stands in a line: a name and a value
abbrev pub WrittenLine : Type 0
WrittenLine = List ℕ × List ℕ

-- a frame as it stands in a line
pub data WrittenFrame : Type 0 where
  as_text : List ℕ → WrittenFrame
  as_hex : List ℕ → WrittenFrame

-- what a line says of a request
pub record Members : Type 0 where
  pub method : List ℕ
  pub template : List ℕ
  pub request_id : List ℕ
  pub uri : List ℕ
  pub variables : Variables
  pub headers : List WrittenLine
  pub frames : List WrittenFrame

-- ---- their trees

abbrev pub variable_tree : VariableValue → Tree
variable_tree (String text) = trees.Variant 0 (trees.Text text)
variable_tree (Components components) = trees.Variant 1 (trees.List (map trees.Text components))

abbrev pub line_tree : WrittenLine → Tree
line_tree line = trees.List (trees.Text line.0 ∷ trees.Text line.1 ∷ [])

abbrev pub frame_tree : WrittenFrame → Tree
frame_tree (as_text text) = trees.Variant 0 (trees.Text text)
frame_tree (as_hex digits) = trees.Variant 1 (trees.Fields (trees.Text digits ∷ []))

abbrev pub members_tree : Members → Tree
members_tree m = trees.Fields
    (trees.Text m.method
    ∷ trees.Text m.template
    ∷ trees.Text m.request_id
    ∷ trees.Text m.uri
    ∷ trees.Map (map (pair_of variable_tree) m.variables)
    ∷ trees.List (map line_tree m.headers)
    ∷ trees.List (map frame_tree m.frames)
    ∷ [])

-- a line reads as JSON that denotes this tree
pub record HasTree (line : List ℕ) (tree : Tree) : Type 0 where
  pub json : Json
  pub reads : Reads line json
  pub denotes : JsonDenotes [] members_desc json tree

-- a line has these members
abbrev pub HasMembers : List ℕ → Members → Type 0
HasMembers line members = HasTree line (members_tree members)

-- ---- the request that is made of them

-- a name of a header field, and bytes that a field's value may hold (RFC 9110, sections 5.1 and 5.5)
abbrev pub IsFieldLine : WrittenLine → Type 0
IsFieldLine line = IsFieldName (encode_utf8_all line.0) × IsFieldValue (encode_utf8_all line.1)

-- each is so
abbrev pub AreFieldLines : List WrittenLine → Type 0
AreFieldLines lines = All IsFieldLine lines

-- the header line of these, with its name in lower case
abbrev pub field_line : WrittenLine → Line
field_line line = (lowercase (encode_utf8_all line.0), plain_value (encode_utf8_all line.1))

-- The head of a request by HTTP/1.1, which comes from nowhere: the method is one (RFC 9110, section 9.1), the target is
-- spelled (RFC 9112, section 3.2), and each header line is one (RFC 9110, section 5).
pub record IsHeadOf (method target : List ℕ) (lines : List WrittenLine) (info : RequestInfo) : Type 0 where
  pub token : IsToken (encode_utf8_all method)
  pub uri : Uri
  pub spelled : Spells (encode_utf8_all target) uri
  pub fields : AreFieldLines lines
  pub made : info ≡ record {
    method = encode_utf8_all method;
    uri = uri;
    version = HTTP_11;
    headers = map field_line lines;
    remote_addr = [];
  }

-- a frame of the bytes of a text (UTF-8, RFC 3629), or of those that hexadecimal digits tell
abbrev pub IsFrame : WrittenFrame → Frame → Type 0
IsFrame (as_text text) frame = frame ≡ Bytes (encode_utf8_all text)
IsFrame (as_hex digits) frame =
    (bytes : List ℕ) × (decode_of (encode_utf8_all digits) ≡ Ok bytes) × (frame ≡ Bytes bytes)

-- one frame for each, in order
abbrev pub AreFrames : List WrittenFrame → List Frame → Type 0
AreFrames = AllZip IsFrame

-- the request of some members to a version of the API, with this head
abbrev pub request_of : Parts → Members → RequestInfo → Request
request_of version members info = record {
  version = version;
  template = members.template;
  variables = members.variables;
  request_id = members.request_id;
  info = info;
}

-- a request and the frames of its body are made of members
pub record AreMade (version : Parts) (members : Members) (request : Request) (frames : List Frame) : Type 0 where
  pub head : IsHeadOf members.method members.uri members.headers request.info
  pub made : request ≡ request_of version members request.info
  pub framed : AreFrames members.frames frames

-- a line asks a version of the API for a request with a body of these frames
pub record AsksFor (version : Parts) (line : List ℕ) (request : Request) (frames : List Frame) : Type 0 where
  pub members : Members
  pub has_members : HasMembers line members
  pub are_made : AreMade version members request frames

-- a line asks no version for anything
abbrev pub IsBadLine : List ℕ → Type 0
IsBadLine line = (version : Parts) (request : Request) (frames : List Frame) → ¬ AsksFor version line request frames
