-- The only character of a text.
use Rattle.std.proofs.Common.{◌≡◌, ℕ, List, [], ◌∷◌, ◌++◌, length, ◌∙◌, ap, arith}
use Rattle.std.proofs.Math.Utf8.{encode}
use Rattle.std.proofs.lemmas.Str.{chars_past_char, chars-nil}
use Rattle.std.specs.Str.{chars, IsUtf8}

alone : (c : ℕ) (text xs : List ℕ) → text ≡ c ∷ xs → length text ≡ 1 → text ≡ c ∷ []
alone c text [] e one = e
alone c text (x ∷ xs) e one = absurd (omega (arith, one, ap length e))

pub none_left : (text bytes : List ℕ) → text ≡ chars bytes → length bytes ≡ 0 → length text ≡ 1 → ⊥
none_left text [] e none one = omega (arith, one, ap length (e ∙ chars-nil))
none_left text (b ∷ bytes) e none one = omega (arith, none)

pub only_first : (text bytes rest : List ℕ) (c : ℕ) → text ≡ chars bytes → IsUtf8 bytes → bytes ≡ encode c ++ rest → length text ≡ 1 → text ≡ c ∷ []
only_first text bytes rest c e valid first one = alone c text (chars rest) (e ∙ chars_past_char bytes rest c valid first) one
