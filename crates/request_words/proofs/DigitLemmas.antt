-- The digits of numbers: cut as they are read, and as bytes or characters.
use Rattle.std.proofs.Common.{◌≡◌, ℕ, ◌+◌, ◌*◌, ◌-◌, ◌≤◌, Bool, true, false, cond, nat_lt, List, [], ◌∷◌, Option, Some, None, option_map, IsUtf8, chars, refl, sym, ◌∙◌, ap, arith, rules}
use Rattle.std.specs.Char.{is_ascii_digit}
use Rattle.std.proofs.lemmas.Str.{chars-IsAscii, encodes-chars, encodes-IsAscii}
use Rattle.schema_values.specs.Ascii.{all_ascii}
use Rattle.schema_values.proofs.CallerLemmas.{IsAscii-from_test}
use Rattle.request_words.specs.CutNumbers.{cut}
use Rattle.request_words.specs.Numbers.{digits_after, digits_number}

cut_twice : (n : ℕ) → cut (cut n) ≡ cut n
cut_twice n = omega arith

cut_step : (n d : ℕ) → cut (cut n * 10 + d) ≡ cut (n * 10 + d)
cut_step n d = omega arith

-- a number that is cut before more digits is cut behind them all the same
pub cut_first : (n : ℕ) (ds : List ℕ) → option_map cut (digits_after (cut n) ds) ≡ option_map cut (digits_after n ds)
cut_first n [] = ap Some (cut_twice n)
cut_first n (c ∷ ds) = by_digit (λ m. cut_first m ds) (is_ascii_digit c)
  where
    by_digit : ((m : ℕ) → option_map cut (digits_after (cut m) ds) ≡ option_map cut (digits_after m ds)) → (b : Bool)
        → option_map cut (cond b (digits_after (cut n * 10 + (c - 0x30)) ds) None) ≡ option_map cut (cond b (digits_after (n * 10 + (c - 0x30)) ds) None)
    by_digit later true = sym (later (cut n * 10 + (c - 0x30))) ∙ ap (λ m. option_map cut (digits_after m ds)) (cut_step n (c - 0x30)) ∙ later (n * 10 + (c - 0x30))
    by_digit later false = refl

-- a number beyond the cut is as good as the cut
pub digit_beyond : (n : ℕ) (ds : List ℕ) → 18446744073709551616 ≤ n → option_map cut (digits_after 18446744073709551616 ds) ≡ option_map cut (digits_after n ds)
digit_beyond n ds far = ap (λ k. option_map cut (digits_after k ds)) (omega (arith, far)) ∙ cut_first n ds

digit_ascii : (c : ℕ) → is_ascii_digit c ≡ true → nat_lt c 128 ≡ true
digit_ascii c h = search rules

ascii_if : (n : ℕ) (ds : List ℕ) (m : ℕ) → digits_after n ds ≡ Some m → all_ascii ds ≡ true
ascii_if n [] m h = refl
ascii_if n (c ∷ ds) m h = by_digit (λ f. ascii_if (n * 10 + (c - 0x30)) ds m f) (is_ascii_digit c) refl h
  where
    by_digit : (digits_after (n * 10 + (c - 0x30)) ds ≡ Some m → all_ascii ds ≡ true) → (b : Bool) → is_ascii_digit c ≡ b → cond b (digits_after (n * 10 + (c - 0x30)) ds) None ≡ Some m → all_ascii (c ∷ ds) ≡ true
    by_digit later true e f = rw (digit_ascii c e) (later f)
    by_digit later false e f = absurd (cc f)

ascii_number : (ds : List ℕ) (m : ℕ) → digits_number ds ≡ Some m → all_ascii ds ≡ true
ascii_number [] m h = absurd (cc h)
ascii_number (c ∷ ds) m h = ascii_if 0 (c ∷ ds) m h

-- the bytes of a text write the number that its characters do
pub digits_in_bytes : (text : List ℕ) → IsUtf8 text → digits_number text ≡ digits_number (chars text)
digits_in_bytes text utf8 = of_bytes (digits_number text) refl
  where
    of_chars : (o : Option ℕ) → digits_number (chars text) ≡ o → digits_number text ≡ None → digits_number text ≡ digits_number (chars text)
    of_chars None e f = f ∙ sym e
    of_chars (Some m) e f =
        let same : chars text ≡ text = sym (encodes-IsAscii (chars text) (IsAscii-from_test (chars text) (ascii_number (chars text) m e))) ∙ encodes-chars text utf8 in
        ap digits_number (sym same)

    of_bytes : (o : Option ℕ) → digits_number text ≡ o → digits_number text ≡ digits_number (chars text)
    of_bytes None e = of_chars (digits_number (chars text)) refl e
    of_bytes (Some m) e = ap digits_number (sym (chars-IsAscii text (IsAscii-from_test text (ascii_number text m e))))
