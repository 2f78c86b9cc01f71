-- The characters of a reason phrase are its bytes.
use Rattle.std.proofs.Common.{◌≡◌, ℕ, suc, List, [], ◌∷◌, Option, Some, None, option_map, unwrap_or, Bor, IsTrue, true, ◌&&◌, nat_lt, chars, refl, ap, ap₂, ◌∙◌, rules, arith}
use Rattle.std.specs.Option.{IfSome}
use Rattle.http_header.specs.FieldValue.{IsVisibleAscii}
use Rattle.http_header.specs.Token.{is_visible_or_blank}
use Rattle.schema_values.specs.Ascii.{all_ascii}
use Rattle.schema_values.proofs.CallerLemmas.{chars-all_ascii}

visible_below : (byte : ℕ) → IsTrue (is_visible_or_blank byte) → nat_lt byte 128 ≡ true
visible_below byte h = search rules

visible_ascii : (bytes : List ℕ) → IsVisibleAscii bytes → all_ascii bytes ≡ true
visible_ascii [] h = refl
visible_ascii (byte ∷ rest) h =
    ap₂ (λ a b. a && b) (visible_below byte (h 0 0 (omega arith))) (visible_ascii rest (λ k d below. h (suc k) d (omega arith)))

-- the characters of a phrase, or of an ASCII text in its place
pub phrase_chars : (shown : Option (Bor (List ℕ))) (phrase : Option (List ℕ)) (other : Bor (List ℕ)) → option_map (λ text. text.now) shown ≡ phrase
    → IfSome shown (λ text. IsVisibleAscii text.now) → IsTrue (all_ascii other.now) → chars (unwrap_or shown other).now ≡ unwrap_or phrase other.now
phrase_chars None phrase other is visible ascii = chars-all_ascii other.now ascii ∙ ap (λ p. unwrap_or p other.now) is
phrase_chars (Some text) phrase other is visible ascii =
    chars-all_ascii text.now (visible_ascii text.now visible) ∙ ap (λ p. unwrap_or p other.now) is
