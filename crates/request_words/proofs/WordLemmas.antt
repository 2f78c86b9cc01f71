-- ASCII words, whose bytes are their characters.
use Rattle.std.proofs.Common.{◌≡◌, ℕ, List, Bool, true, false, bytes_eq, chars, sym, refl, ◌∙◌, ap, IsTrue, IsUtf8}
use Rattle.std.proofs.lemmas.Bool.Decides.{same_from_decides}
use Rattle.std.proofs.lemmas.Slice.Eq.{bytes_eq-Decides}
use Rattle.std.proofs.lemmas.Str.{chars-IsAscii, encodes-chars, encodes-IsAscii}
use Rattle.std.proofs.Math.Utf8.{encodes}
use Rattle.schema_values.specs.Ascii.{all_ascii}
use Rattle.schema_values.proofs.CallerLemmas.{IsAscii-from_test}

-- two tests that say the same
pub same_test : (a b : Bool) (P : Type 0) → (a ≡ true → P) → (P → a ≡ true) → (b ≡ true → P) → (P → b ≡ true) → a ≡ b
same_test true b P f g h k = sym (k (f refl))
same_test false true P f g h k = g (h refl)
same_test false false P f g h k = refl

pub chars-word : (word : List ℕ) → IsTrue (all_ascii word) → chars word ≡ word
chars-word word h = chars-IsAscii word (IsAscii-from_test word h)

-- a text is an ASCII word, in bytes or in characters
pub word_in_bytes : (text word : List ℕ) → IsUtf8 text → IsTrue (all_ascii word) → bytes_eq text word ≡ bytes_eq word (chars text)
word_in_bytes text word utf8 ascii =
    let is = IsAscii-from_test word ascii in
    same_from_decides (bytes_eq text word) (bytes_eq word (chars text)) (bytes_eq-Decides text word) (
      λ h. let same = (bytes_eq-Decides word (chars text)).0 h in sym (encodes-chars text utf8) ∙ ap encodes (sym same) ∙ encodes-IsAscii word is,
      λ e. (bytes_eq-Decides word (chars text)).1 (sym (chars-IsAscii word is) ∙ ap chars (sym e)),
    )
