-- Reply lines: compact JSON that tells the outcome, and the response where there is one.
use Rattle.std.specs.Prelude.{◌≡◌, ◌⊎◌, ℕ, pos, List, [], ◌∷◌, IsUtf8, codes}
use Rattle.std.specs.List.{AllZip}
use Rattle.std.specs.Str.{chars, encode_utf8_all}
use Rattle.hex.specs.Hex.{encode_lower}
use Rattle.schema_values.specs.declared.json_value.Json.{Json, Int as Number, Text as Words, List as Items, Object}
use Rattle.schema_values.specs.declared.json_value.Member.{Member}
use Rattle.schema_values.specs.Member.{member}
use Rattle.schema_values.specs.Print.{compact_of}
use Rattle.header_lists.specs.HeaderLists.{Line}
use Rattle.http_bodies.specs.Bodies.{frames_of}
use Rattle.http_bodies.specs.Frames.{all_data}
use Rattle.http_status.specs.declared.response.Response.{Response}
use Rattle.reply_lines.specs.ResponseBodies.{FailsWithin, HasMoreFrames, IsReadWhole}

-- the line's bytes are the compact JSON of a value
abbrev pub bytes_of_line : Json → List ℕ
bytes_of_line json = encode_utf8_all (compact_of json)

-- bytes as they are shown: as a text, or in hexadecimal digits where they are none (UTF-8, RFC 3629)
abbrev pub IsShownAs : List ℕ → Json → Type 0
IsShownAs bytes json =
    (IsUtf8 bytes × (json ≡ Words (chars bytes)))
    ⊎ (¬ IsUtf8 bytes × (json ≡ Object (member (codes "hex") (Words (encode_lower bytes)) ∷ [])))

-- a header line as a pair of its name and its value
abbrev pub IsPairOf : Line → Json → Type 0
IsPairOf line json = (value : Json) × IsShownAs line.1.bytes value × (json ≡ Items (Words (chars line.0) ∷ value ∷ []))

-- one pair for each header line, in order
abbrev pub ArePairsOf : List Line → List Json → Type 0
ArePairsOf = AllZip IsPairOf

-- the content of a body as a text, or in hexadecimal digits
abbrev pub IsBodyMember : List ℕ → Member → Type 0
IsBodyMember bytes m =
    (IsUtf8 bytes × (m ≡ member (codes "body") (Words (chars bytes))))
    ⊎ (¬ IsUtf8 bytes × (m ≡ member (codes "body_hex") (Words (encode_lower bytes))))

-- the member that tells the outcome
abbrev pub outcome_member : List ℕ → Member
outcome_member outcome = member (codes "outcome") (Words outcome)

-- an object that tells the outcome and nothing else
abbrev pub outcome_alone : List ℕ → Json
outcome_alone outcome = Object (outcome_member outcome ∷ [])

-- the outcome, and the status, the header lines and the content of a response
pub record TellsResponse (outcome : List ℕ) (status : ℕ) (lines : List Line) (content : List ℕ) (json : Json)
    : Type 0 where
  pub pairs : List Json
  pub body : Member
  pub are_pairs : ArePairsOf lines pairs
  pub is_body : IsBodyMember content body
  pub object : json ≡ Object (outcome_member outcome
      ∷ member (codes "status") (Number (pos status))
      ∷ member (codes "headers") (Items pairs)
      ∷ body ∷ [])

-- What is told of an outcome with a response, by what reading its body comes to: the response; that a call on its body
-- failed; or that it has more frames than the budget.
pub data Shows (budget : ℕ) (outcome : List ℕ) (response : Response) (json : Json) : Type 0 where
  whole : IsReadWhole budget response.body
      → TellsResponse outcome response.status response.headers (all_data (frames_of response.body)) json
      → Shows budget outcome response json
  fault : FailsWithin budget response.body → json ≡ outcome_alone (codes "reply-fault")
      → Shows budget outcome response json
  many_frames : HasMoreFrames budget response.body → json ≡ outcome_alone (codes "reply-budget")
      → Shows budget outcome response json
