-- The media type of a request (RFC 9110, sections 8.3 and 8.3.1).
use Rattle.std.specs.Prelude.{ℕ, ◌==◌, Bool, false, ◌||◌, IsTrue, List, [], ◌∷◌, take, Option, Some, None, if◌then◌else◌, bytes_eq, codes}
use Rattle.std.specs.List.{list_all, position_or_len}
use Rattle.std.specs.Option.{option_map_or}
use Rattle.request_words.specs.declared.request.HeaderLine.{HeaderLine}
use Rattle.request_words.specs.HeaderLines.{lower, first_line, is_blank, all_shown}
use Rattle.request_words.specs.Prefixes.{after}

-- what stands before the first `;`, behind which the parameters are
abbrev pub before_parameters : List ℕ → List ℕ
before_parameters value = take (position_or_len (λ byte. byte == 0x3B) value) value

-- the same without blanks at its end
abbrev pub without_end : List ℕ → List ℕ
without_end [] = []
without_end (byte ∷ rest) = if list_all is_blank (byte ∷ rest) then [] else byte ∷ without_end rest

-- the media type that a value gives, none where a byte is not shown
abbrev pub type_of_value : List ℕ → Option (List ℕ)
type_of_value value = if all_shown value then Some (lower (without_end (before_parameters value))) else None

-- the media type of a request: that of the first `content-type` line, and `application/json` where there is none
abbrev pub media_type : List HeaderLine → Option (List ℕ)
media_type lines = option_map_or type_of_value (first_line (codes "content-type") lines) (Some (codes "application/json"))

-- what follows the first `+`
abbrev pub after_plus : List ℕ → Option (List ℕ)
after_plus [] = None
after_plus (byte ∷ rest) = if byte == 0x2B then Some rest else after_plus rest

-- a subtype whose whole text after the first `+` is `json`
abbrev pub ends_in_json : List ℕ → Bool
ends_in_json subtype = option_map_or (bytes_eq (codes "json")) (after_plus subtype) false

-- a type under `application/` with such a subtype (RFC 6839, section 3.1)
abbrev pub has_json_suffix : List ℕ → Bool
has_json_suffix type = option_map_or ends_in_json (after (codes "application/") type) false

-- a media type of JSON (RFC 8259, section 11)
abbrev pub is_json_type : List ℕ → Bool
is_json_type type = bytes_eq (codes "application/json") type || has_json_suffix type

-- the media type of a request is one of JSON
abbrev pub HasJsonType : List HeaderLine → Type 0
HasJsonType lines = IsTrue (option_map_or is_json_type (media_type lines) false)

-- the media type of forms (URL Standard, section 5)
abbrev pub is_form_type : List ℕ → Bool
is_form_type type = bytes_eq (codes "application/x-www-form-urlencoded") type

-- the media type of a request is that of forms
abbrev pub HasFormType : List HeaderLine → Type 0
HasFormType lines = IsTrue (option_map_or is_form_type (media_type lines) false)
