-- Templates of paths: a slash alone, or segments that each stand behind a slash (OpenAPI 3.0.3, Paths Object and
-- "Path Templating"). Wildcards are of this library. All lists are of characters.
use Rattle.std.specs.Prelude.{◌≡◌, ◌==◌, ◌++◌, ℕ, Bool, true, false, not, ◌&&◌, ◌||◌, nat_le, List, [], ◌∷◌, Option}
use Rattle.std.specs.Prelude.{Some, None, bytes_eq, codes, if◌then◌else◌}
use Rattle.std.specs.List.{filter_map, list_all}
use Rattle.std.specs.Option.{option_map_or}
use Rattle.schema_values.specs.SoundTest.{are_distinct}
use Rattle.path_templates.specs.declared.segment.PathSegment.{PathSegment}
use Rattle.path_templates.specs.declared.segment.PathSegment.TheVariants.{Literal, VarnameSegment, VarnameWildcard}

-- the slash and the braces
abbrev pub slash : ℕ
slash = 47

abbrev pub opening : ℕ
opening = 123

abbrev pub closing : ℕ
closing = 125

-- without a slash at the end
abbrev pub cut_slash : List ℕ → List ℕ
cut_slash [] = []
cut_slash (c ∷ []) = if c == slash then [] else c ∷ []
cut_slash (c ∷ d ∷ rest) = c ∷ cut_slash (d ∷ rest)

-- without one slash at the end; a slash alone stays
abbrev pub trimmed : List ℕ → List ℕ
trimmed [] = []
trimmed (c ∷ []) = c ∷ []
trimmed (c ∷ d ∷ rest) = cut_slash (c ∷ d ∷ rest)

-- a letter of ASCII or `_`, with which a name begins
abbrev pub begins_name : ℕ → Bool
begins_name c = (nat_le 97 c && nat_le c 122) || ((nat_le 65 c && nat_le c 90) || (c == 95))

-- such a character or a digit, with which it goes on
abbrev pub continues_name : ℕ → Bool
continues_name c = begins_name c || (nat_le 48 c && nat_le c 57)

-- the name of a variable
abbrev pub is_variable_name : List ℕ → Bool
is_variable_name [] = false
is_variable_name (c ∷ cs) = begins_name c && list_all continues_name cs

-- a character that may stand in a literal: neither a slash nor a brace
abbrev pub is_literal_character : ℕ → Bool
is_literal_character c = not (c == slash) && (not (c == opening) && not (c == closing))

-- a text that may stand between slashes as it is
abbrev pub is_literal : List ℕ → Bool
is_literal [] = false
is_literal (c ∷ cs) = list_all is_literal_character (c ∷ cs)

-- the text of a segment
abbrev pub segment_text : PathSegment → List ℕ
segment_text (Literal text) = text
segment_text (VarnameSegment name) = codes "{" ++ (name ++ codes "}")
segment_text (VarnameWildcard name) = codes "{" ++ (name ++ codes ":.*}")

-- a segment whose text is a literal, or whose name is one
abbrev pub is_segment : PathSegment → Bool
is_segment (Literal text) = is_literal text
is_segment (VarnameSegment name) = is_variable_name name
is_segment (VarnameWildcard name) = is_variable_name name

-- some segments, each behind a slash
abbrev pub behind_slashes : List PathSegment → List ℕ
behind_slashes [] = []
behind_slashes (s ∷ ss) = slash ∷ (segment_text s ++ behind_slashes ss)

-- the text of a template: a slash alone where it has no segment
abbrev pub template_text : List PathSegment → List ℕ
template_text [] = slash ∷ []
template_text (s ∷ ss) = behind_slashes (s ∷ ss)

-- the name of a variable, which a literal lacks
abbrev pub name_in : PathSegment → Option (List ℕ)
name_in (Literal text) = None
name_in (VarnameSegment name) = Some name
name_in (VarnameWildcard name) = Some name

-- whether a segment is a variable of a name
abbrev pub has_name : List ℕ → PathSegment → Bool
has_name name segment = option_map_or (bytes_eq name) (name_in segment) false

-- the names of the variables, in order
abbrev pub names_of : List PathSegment → List (List ℕ)
names_of = filter_map name_in

-- whether a segment stands for all that is left of a path
abbrev pub is_wildcard : PathSegment → Bool
is_wildcard (Literal text) = false
is_wildcard (VarnameSegment name) = false
is_wildcard (VarnameWildcard name) = true

-- no segment but the last is a wildcard
abbrev pub is_wildcard_last : List PathSegment → Bool
is_wildcard_last [] = true
is_wildcard_last (s ∷ []) = true
is_wildcard_last (s ∷ t ∷ ss) = not (is_wildcard s) && is_wildcard_last (t ∷ ss)

-- a wildcard is the last, and no two variables have one name
abbrev pub are_arranged : List PathSegment → Bool
are_arranged ss = is_wildcard_last ss && are_distinct (names_of ss)

-- A path is the template of these segments: each is one, a wildcard is the last, no two variables have one name, and
-- the path is their text, but for one slash at its end.
pub record IsTemplateOf (path : List ℕ) (segments : List PathSegment) : Type 0 where
  pub each : list_all is_segment segments ≡ true
  pub last : is_wildcard_last segments ≡ true
  pub distinct : are_distinct (names_of segments) ≡ true
  pub spelled : trimmed path ≡ template_text segments

-- A path is read as these segments: it is their template, and where it is read as none, it is the template of none.
abbrev pub IsReadAs : List ℕ → Option (List PathSegment) → Type 0
IsReadAs path None = (segments : List PathSegment) → ¬ IsTemplateOf path segments
IsReadAs path (Some segments) = IsTemplateOf path segments
