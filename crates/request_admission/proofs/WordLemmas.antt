-- ASCII words among texts, whose bytes are known.
use Rattle.std.proofs.Common.{◌≡◌, ◌≢◌, ℕ, false, List, IsTrue, IsUtf8, bytes_eq, chars, sym, ◌∙◌, ap}
use Rattle.std.proofs.lemmas.Bool.{false_from_ne_true}
use Rattle.std.proofs.lemmas.Slice.Eq.{bytes_eq-Decides}
use Rattle.schema_values.specs.Ascii.{all_ascii}
use Rattle.request_words.proofs.CallerLemmas.{word_in_bytes, chars-word}

-- the characters of a text that is a word
pub chars-is : (text word : List ℕ) → text ≡ word → IsTrue (all_ascii word) → chars text ≡ word
chars-is text word is ascii = ap chars is ∙ chars-word word ascii

-- the characters of a text that is no such word
pub other_word : (text word : List ℕ) → IsUtf8 text → text ≢ word → IsTrue (all_ascii word) → bytes_eq word (chars text) ≡ false
other_word text word utf8 other ascii = sym (word_in_bytes text word utf8 ascii) ∙ false_from_ne_true (bytes_eq text word) (λ h. other ((bytes_eq-Decides text word).0 h))
