-- Lines of a text. Each ends at a newline; what stands behind the last newline is open.
use Rattle.std.specs.Prelude.{ℕ, ◌≢◌, ◌<◌, ◌≤◌, List, [], ◌∷◌, ◌++◌, length, take, if◌then◌else◌, ◌==◌}
use Rattle.std.specs.List.{flat_map, AllByRecursion}

-- no newline in it
abbrev pub IsLine : List ℕ → Type 0
IsLine line = AllByRecursion (λ b. b ≢ 10) line

-- a line, and the newline that ends it
abbrev pub end_line : List ℕ → List ℕ
end_line line = line ++ 10 ∷ []

-- these lines, each with its newline
abbrev pub ended : List (List ℕ) → List ℕ
ended lines = flat_map end_line lines

-- a line of at most `longest` bytes
pub record Fits (longest : ℕ) (line : List ℕ) : Type 0 where
  pub line_only : IsLine line
  pub short : length line ≤ longest

-- the lines of a text with these whole lines and these open bytes, which are a line where there are any
abbrev pub all_lines : List (List ℕ) → List ℕ → List (List ℕ)
all_lines lines [] = lines
all_lines lines (b ∷ bs) = lines ++ (b ∷ bs) ∷ []

-- a byte before the first of these lines
abbrev pub before_first : ℕ → List (List ℕ) → List (List ℕ)
before_first b [] = (b ∷ []) ∷ []
before_first b (line ∷ lines) = (b ∷ line) ∷ lines

-- the lines of a text; the last needs no newline, unless it is empty
abbrev pub lines_of : List ℕ → List (List ℕ)
lines_of [] = []
lines_of (b ∷ bs) = if b == 10 then [] ∷ lines_of bs else before_first b (lines_of bs)

-- no line is longer than `longest` bytes
abbrev pub HasShortLines : ℕ → List ℕ → Type 0
HasShortLines longest bytes = AllByRecursion (λ line. length line ≤ longest) (lines_of bytes)

-- some line is longer
abbrev pub HasLongLine : ℕ → List ℕ → Type 0
HasLongLine longest bytes = ¬ HasShortLines longest bytes

-- the bytes are at most `most`, and no line is too long
pub record PassesNoLimit (most longest : ℕ) (bytes : List ℕ) : Type 0 where
  pub total : length bytes ≤ most
  pub lines : HasShortLines longest bytes

-- the bytes are more than `most`, and among the first `most` no line is too long
pub record IsTooMuch (most longest : ℕ) (bytes : List ℕ) : Type 0 where
  pub total : most < length bytes
  pub lines : HasShortLines longest (take most bytes)
