-- The whole numbers that texts write, in decimal digits behind an optional sign: as a schema of the type integer reads
-- the text of a parameter (OpenAPI 3.0.3, Data Types and Parameter Object).
use Rattle.std.specs.Prelude.{ℕ, ◌+◌, ◌*◌, ◌-◌, ℤ, pos, neg_ℤ, Bool, List, [], ◌∷◌, Option, Some, None, option_map, unwrap_or, is_some, if◌then◌else◌, codes}
use Rattle.std.specs.Char.{is_ascii_digit}
use Rattle.request_words.specs.Prefixes.{after}

-- the number that decimal digits write, behind those of another number; nothing but digits writes one
abbrev pub digits_after : ℕ → List ℕ → Option ℕ
digits_after n [] = Some n
digits_after n (c ∷ digits) = if is_ascii_digit c then digits_after (n * 10 + (c - 0x30)) digits else None

-- the number of one or more digits
abbrev pub digits_number : List ℕ → Option ℕ
digits_number [] = None
digits_number (c ∷ digits) = digits_after 0 (c ∷ digits)

-- whether a text begins with a minus
abbrev pub has_minus : List ℕ → Bool
has_minus text = is_some (after (codes "-") text)

-- a text without the sign before it
abbrev pub without_sign : List ℕ → List ℕ
without_sign text = unwrap_or (after (codes "-") text) (unwrap_or (after (codes "+") text) text)

-- a number, less than none where it stands behind a minus
abbrev pub signed : Bool → ℕ → ℤ
signed minus n = if minus then neg_ℤ (pos n) else pos n

-- the number of an optional sign and digits
abbrev pub number_of : List ℕ → Option ℤ
number_of text = option_map (signed (has_minus text)) (digits_number (without_sign text))
