-- The header lines of a request (RFC 9110, sections 5.1 and 5.5).
use Rattle.std.specs.Prelude.{ℕ, ◌==◌, nat_le, Bool, ◌||◌, ◌&&◌, List, [], ◌∷◌, map, Option, Some, None, option_map, if◌then◌else◌, find, bytes_eq}
use Rattle.std.specs.Char.{to_ascii_lowercase}
use Rattle.std.specs.List.{list_all}
use Rattle.std.specs.Str.{encode_utf8_all}
use Rattle.request_words.specs.declared.request.HeaderLine.{HeaderLine}

-- bytes with their ASCII letters in lower case
abbrev pub lower : List ℕ → List ℕ
lower text = map to_ascii_lowercase text

-- whether a line has a name, given by its bytes and compared without case (RFC 9110, section 5.1)
abbrev pub is_line_of : List ℕ → HeaderLine → Bool
is_line_of name line = bytes_eq (lower (encode_utf8_all line.name)) (lower name)

-- the value of the first line of a name
abbrev pub first_line : List ℕ → List HeaderLine → Option (List ℕ)
first_line name lines = option_map (λ line. line.value) (find (is_line_of name) lines)

-- a later value, else the value of a line of the name
abbrev pub later_or : Option (List ℕ) → List ℕ → HeaderLine → Option (List ℕ)
later_or (Some value) name line = Some value
later_or None name line = if is_line_of name line then Some line.value else None

-- the value of the last line of a name
abbrev pub last_line : List ℕ → List HeaderLine → Option (List ℕ)
last_line name [] = None
last_line name (line ∷ lines) = later_or (last_line name lines) name line

-- a space or a tab
abbrev pub is_blank : ℕ → Bool
is_blank byte = byte == 0x20 || byte == 0x09

-- a visible ASCII character, a space or a tab (RFC 9110, section 5.5, without the obsolete bytes above 0x7F)
abbrev pub is_shown : ℕ → Bool
is_shown byte = nat_le 0x20 byte && nat_le byte 0x7E || byte == 0x09

-- whether each byte of a value is one of these
abbrev pub all_shown : List ℕ → Bool
all_shown value = list_all is_shown value

-- a value as a text, where each byte of it is one of these; they are its characters
abbrev pub shown_text : List ℕ → Option (List ℕ)
shown_text value = if all_shown value then Some value else None
