-- Bytes that are shown are a text, and its characters.
use Rattle.std.proofs.Common.{◌≡◌, ℕ, true, ◌&&◌, cond, nat_lt, List, [], ◌∷◌, Some, None, option_map, Bor, MatchResult, IsUtf8, chars, refl, sym, ◌∙◌, ap, ap₂, rules}
use Rattle.std.proofs.lemmas.Bool.{and_parts}
use Rattle.std.proofs.lemmas.Str.{chars-IsAscii, IsUtf8-from_ascii}
use Rattle.std.specs.declared.result.Result.{Result}
use Rattle.std.specs.declared.result.Result.TheVariants.{Ok, Err}
use Rattle.std.specs.Result.{result_ok}
use Rattle.schema_values.specs.Ascii.{all_ascii}
use Rattle.schema_values.proofs.CallerLemmas.{IsAscii-from_test}
use Rattle.request_words.specs.HeaderLines.{is_shown, all_shown, shown_text}

shown_below : (byte : ℕ) → is_shown byte ≡ true → nat_lt byte 128 ≡ true
shown_below byte h = search rules

shown_ascii : (value : List ℕ) → all_shown value ≡ true → all_ascii value ≡ true
shown_ascii [] h = refl
shown_ascii (byte ∷ value) h = let parts = and_parts _ _ h in ap₂ (λ a b. a && b) (shown_below byte parts.0) (shown_ascii value parts.1)

-- the text of the bytes, where they are shown
pub text_shown : {E : Type 0} (value : List ℕ) (r : Result (Bor (List ℕ)) E) (P : E → Type 0) → all_shown value ≡ true → MatchResult r (λ s. (s.now ≡ value) × IsUtf8 value) (λ e. (IsUtf8 value → ⊥) × P e) → option_map (λ text. chars text.now) (result_ok r) ≡ shown_text value
text_shown value (Ok text) P shown h =
    ap Some (ap chars h.0 ∙ chars-IsAscii value (IsAscii-from_test value (shown_ascii value shown))) ∙ sym (ap (λ b. cond b (Some value) None) shown)
text_shown value (Err e) P shown h = absurd (h.0 (IsUtf8-from_ascii value (IsAscii-from_test value (shown_ascii value shown))))
