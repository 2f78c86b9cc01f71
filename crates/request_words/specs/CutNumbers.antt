-- Numbers of texts, cut where they are beyond 64 bits.
use Rattle.std.specs.Prelude.{ℕ, ◌^◌, min, ℤ, List, Option, option_map}
use Rattle.request_words.specs.Numbers.{digits_number, has_minus, without_sign, signed}

-- a number of at most 2^64
abbrev pub cut : ℕ → ℕ
cut n = min n (2 ^ 64)

-- the number of a text, whose size is cut
abbrev pub cut_number_of : List ℕ → Option ℤ
cut_number_of text = option_map (λ n. signed (has_minus text) (cut n)) (digits_number (without_sign text))
