-- Header lines in order, by names (RFC 9110, sections 5.1 to 5.3).
use Rattle.std.specs.Prelude.{ℕ, ◌-◌, Bool, not, List, [], ◌∷◌, ◌++◌, length, map, slice_get, Option}
use Rattle.std.specs.Prelude.{if◌then◌else◌, bytes_eq}
use Rattle.std.specs.List.{filter, list_any}
use Rattle.http_header.specs.FieldValue.{FieldValue}
use Rattle.http_header.specs.Token.{lowercase}

-- a header line: the bytes of its name, and its value
abbrev pub Line : Type 0
Line = List ℕ × FieldValue

-- whether two names are the same, without case (section 5.1)
abbrev pub is_same_name : List ℕ → List ℕ → Bool
is_same_name name other = bytes_eq (lowercase name) (lowercase other)

-- whether a line has a name
abbrev pub is_line_of : List ℕ → Line → Bool
is_line_of name line = is_same_name line.0 name

-- whether one of the lines has a name
abbrev pub has_line : List ℕ → List Line → Bool
has_line name lines = list_any (is_line_of name) lines

-- the values of the lines of a name, in order (section 5.3)
abbrev pub values_of : List ℕ → List Line → List FieldValue
values_of name lines = map (λ line. line.1) (filter (is_line_of name) lines)

-- the value of the first line of a name
abbrev pub first_of : List ℕ → List Line → Option FieldValue
first_of name lines = slice_get (values_of name lines) 0

-- the value of the last line of a name
abbrev pub last_of : List ℕ → List Line → Option FieldValue
last_of name lines = let values = values_of name lines in slice_get values (length values - 1)

-- the lines but those of a name
abbrev pub without : List ℕ → List Line → List Line
without name lines = filter (λ line. not (is_line_of name line)) lines

-- one line of this name, in the place of the first that there was, else behind the others
abbrev pub inserted : List ℕ → FieldValue → List Line → List Line
inserted name value [] = (name, value) ∷ []
inserted name value (line ∷ lines) =
    if is_line_of name line then (name, value) ∷ without name lines else line ∷ inserted name value lines

-- the lines whose names none of the added lines has, and behind them the added ones
abbrev pub extended : List Line → List Line → List Line
extended lines added = filter (λ line. not (has_line line.0 added)) lines ++ added
