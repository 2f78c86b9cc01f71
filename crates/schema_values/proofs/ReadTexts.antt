-- A string in a JSON text is UTF-8, where the text is.
use Rattle.std.proofs.Common.{◌≡◌, ℕ, ◌+◌, ◌*◌, ◌<◌, List, [], ◌∷◌, ◌++◌, length, get_or, drop, Bool, true, false, ◌&&◌, ◌||◌, ◌==◌, nat_lt, cond, Option, Some, None, option_and_then, IsUtf8, refl, sym, ap, ◌∙◌, subst, arith, append_assoc, append-nil, length-append}
use Rattle.std.specs.Char.{IsScalar, is_digit, digit_value, encode_utf8}
use Rattle.std.proofs.Math.Utf8.{low_scalar}
use Rattle.std.proofs.lemmas.Bool.{eqb-true, ltb-true, and_parts}
use Rattle.std.proofs.lemmas.Bool.Decides.{nat_tests}
use Rattle.std.proofs.lemmas.List.{take_at, drop_at, drop-drop, get_or_at}
use Rattle.std.proofs.lemmas.Option.{cond_some}
use Rattle.std.proofs.lemmas.Str.{encode_ascii, IsUtf8-append, IsUtf8-encode, IsUtf8-take, IsUtf8-drop, IsCharBoundary-before_ascii, IsCharBoundary-after_ascii}
use Rattle.json.specs.Text.{code_unit, short_escape, is_high_surrogate, is_low_surrogate, surrogate_pair, Within, plain, after_backslash, after_u, after_high, prepend, content}
use Rattle.schema_values.proofs.Options.{mapped}

-- ---- texts that are cut at a byte below 128

pub cut_text : (p xs : List ℕ) (x : ℕ) → x < 128 → IsUtf8 (p ++ x ∷ xs) → IsUtf8 p × IsUtf8 xs
cut_text p xs x low u =
    let text = p ++ x ∷ xs in
    let n = length p in
    let here : get_or text n 0 < 128 = omega (arith, get_or_at p x xs 0 n refl) in
    let within : n < length text = omega (arith, length-append p (x ∷ xs)) in (
      subst IsUtf8 (take_at p (x ∷ xs) n refl) (IsUtf8-take text n u (IsCharBoundary-before_ascii text n within here)),
      subst IsUtf8 (sym (drop-drop 1 n text) ∙ ap (drop 1) (drop_at p (x ∷ xs) n refl)) (IsUtf8-drop text (n + 1) u (IsCharBoundary-after_ascii text n u within here)),
    )

behind_text : (x : ℕ) (xs : List ℕ) → x < 128 → IsUtf8 (x ∷ xs) → IsUtf8 xs
behind_text x xs low u = (cut_text [] xs x low u).1

low_text : (c : ℕ) → c < 128 → IsUtf8 (c ∷ [])
low_text c h = subst IsUtf8 (encode_ascii c h) (IsUtf8-encode c (low_scalar c (omega arith)))

-- ---- escapes

abbrev BothLow : ℕ → ℕ → Type 0
BothLow x c = (x < 128) × (c < 128)

low_if : (b : Bool) (v x c : ℕ) (rest : Option ℕ) → (b ≡ true → BothLow x v) → (rest ≡ Some c → BothLow x c) → cond b (Some v) rest ≡ Some c → BothLow x c
low_if true v x c rest h later e = let same : v ≡ c = cc e in subst (BothLow x) same (h refl)
low_if false v x c rest h later e = later e

same_low : (x k v : ℕ) → k < 128 → v < 128 → (x == k) ≡ true → BothLow x v
same_low x k v low lower e = let same = eqb-true x k e in (omega (arith, same, low), lower)

short_low : (x c : ℕ) → short_escape x ≡ Some c → BothLow x c
unfolding short_escape
short_low x c =
    low_if ((x == 34) || (x == 92) || (x == 47)) x x c _ (λ h. let low : x < 128 = grind arith in (low, low))
    (low_if (x == 98) 8 x c _ (same_low x 98 8 (omega arith) (omega arith))
    (low_if (x == 102) 12 x c _ (same_low x 102 12 (omega arith) (omega arith))
    (low_if (x == 110) 10 x c _ (same_low x 110 10 (omega arith) (omega arith))
    (low_if (x == 114) 13 x c _ (same_low x 114 13 (omega arith) (omega arith))
    (low_if (x == 116) 9 x c None (same_low x 116 9 (omega arith) (omega arith)) (λ e. absurd (cc e)))))))

digit_low : (x : ℕ) → is_digit x 16 ≡ true → x < 128
digit_low x h = grind arith

four_digits : (a b c d u : ℕ) → a < 16 → b < 16 → c < 16 → d < 16 → a * 4096 + b * 256 + c * 16 + d ≡ u → u < 65536
four_digits a b c d u h i j k e = omega arith

-- what is behind four hex digits, and how large a unit they spell
behind_digits : (a b c d u : ℕ) (xs : List ℕ) → IsUtf8 (a ∷ b ∷ c ∷ d ∷ xs) → code_unit a b c d ≡ Some u → IsUtf8 xs × (u < 65536)
unfolding code_unit
behind_digits a b c d u xs t e =
    let found = cond_some (is_digit a 16 && is_digit b 16 && is_digit c 16 && is_digit d 16) (digit_value a * 4096 + digit_value b * 256 + digit_value c * 16 + digit_value d) u e in
    let p = and_parts (is_digit a 16 && is_digit b 16 && is_digit c 16) (is_digit d 16) found.0 in
    let q = and_parts (is_digit a 16 && is_digit b 16) (is_digit c 16) p.0 in
    let r = and_parts (is_digit a 16) (is_digit b 16) q.0 in (
      behind_text d xs (digit_low d p.1) (behind_text c _ (digit_low c q.1) (behind_text b _ (digit_low b r.1) (behind_text a _ (digit_low a r.0) t))),
      four_digits (digit_value a) (digit_value b) (digit_value c) (digit_value d) u (ltb-true _ _ r.0) (ltb-true _ _ r.1) (ltb-true _ _ q.1) (ltb-true _ _ p.1) found.1,
    )

unit_scalar : (u : ℕ) → u < 65536 → is_high_surrogate u ≡ false → is_low_surrogate u ≡ false → IsScalar u
unit_scalar u small no_high no_low = grind (arith, nat_tests)

pair_scalar : (high low : ℕ) → is_high_surrogate high ≡ true → is_low_surrogate low ≡ true → IsScalar (surrogate_pair high low)
pair_scalar high low h l = grind (arith, nat_tests)

-- ---- the content of a string

-- from a string's content behind some bytes, what follows them
abbrev Reading : Within → List ℕ → Type 0
Reading within xs = (s : List ℕ) → IsUtf8 xs → content within xs ≡ Some s → IsUtf8 s

abbrev PlainReading : List ℕ → Type 0
PlainReading xs = (p s : List ℕ) → IsUtf8 (p ++ xs) → content plain xs ≡ Some s → IsUtf8 (p ++ s)

plain_by : (x : ℕ) (xs p s : List ℕ) (is_quote is_backslash is_control : Bool) → (x == 34) ≡ is_quote → (x == 92) ≡ is_backslash → IsUtf8 (p ++ x ∷ xs)
    → cond is_quote (Some []) (cond is_backslash (content after_backslash xs) (cond is_control None (prepend (x ∷ []) (content plain xs)))) ≡ Some s
    → Reading after_backslash xs → PlainReading xs → IsUtf8 (p ++ s)
plain_by x xs p s true is_backslash is_control h k t e escaped later =
    let ended : [] ≡ s = cc e in
    let quote : x < 128 = omega (arith, eqb-true x 34 h) in
    subst (λ (r : List ℕ). IsUtf8 (p ++ r)) ended (subst IsUtf8 (sym (append-nil p)) (cut_text p xs x quote t).0)
plain_by x xs p s false true is_control h k t e escaped later =
    let parts = cut_text p xs x (omega (arith, eqb-true x 92 k)) t in
    IsUtf8-append p s parts.0 (escaped s parts.1 e)
plain_by x xs p s false false true h k t e escaped later = absurd (cc e)
plain_by x xs p s false false false h k t e escaped later =
    let r = mapped (λ rest. x ∷ rest) (content plain xs) s e in
    let more = later (p ++ x ∷ []) r.0 (subst IsUtf8 (sym (append_assoc p (x ∷ []) xs)) t) r.1 in
    subst IsUtf8 (append_assoc p (x ∷ []) r.0 ∙ ap (λ (l : List ℕ). p ++ l) r.2) more

-- the bytes of some characters, and what is behind them
char_then : (bytes xs s : List ℕ) → IsUtf8 bytes → IsUtf8 xs → prepend bytes (content plain xs) ≡ Some s → PlainReading xs → IsUtf8 s
char_then bytes xs s b t e later =
    let r = mapped (λ rest. bytes ++ rest) (content plain xs) s e in
    subst IsUtf8 r.2 (IsUtf8-append bytes r.0 b (later [] r.0 t r.1))

backslash_by : (x : ℕ) (xs s : List ℕ) (is_u : Bool) → (x == 117) ≡ is_u → (o : Option ℕ) → short_escape x ≡ o → IsUtf8 (x ∷ xs)
    → cond is_u (content after_u xs) (option_and_then (λ c. prepend (c ∷ []) (content plain xs)) o) ≡ Some s → Reading after_u xs → PlainReading xs → IsUtf8 s
backslash_by x xs s true h o k t e escaped later = escaped s (behind_text x xs (omega (arith, eqb-true x 117 h)) t) e
backslash_by x xs s false h None k t e escaped later = absurd (cc e)
backslash_by x xs s false h (Some c) k t e escaped later =
    let low = short_low x c k in
    char_then (c ∷ []) xs s (low_text c low.1) (behind_text x xs low.0 t) e later

unit_by : (u : ℕ) (xs s : List ℕ) (is_high is_low : Bool) → is_high_surrogate u ≡ is_high → is_low_surrogate u ≡ is_low → u < 65536 → IsUtf8 xs
    → cond is_high (content (after_high u) xs) (cond is_low None (prepend (encode_utf8 u) (content plain xs))) ≡ Some s
    → (is_high_surrogate u ≡ true → Reading (after_high u) xs) → PlainReading xs → IsUtf8 s
unit_by u xs s true is_low h l small t e paired later = paired h s t e
unit_by u xs s false true h l small t e paired later = absurd (cc e)
unit_by u xs s false false h l small t e paired later = char_then (encode_utf8 u) xs s (IsUtf8-encode u (unit_scalar u small h l)) t e later

u_by : (a b c d : ℕ) (xs s : List ℕ) (o : Option ℕ) → code_unit a b c d ≡ o → IsUtf8 (a ∷ b ∷ c ∷ d ∷ xs)
    → option_and_then (λ u. cond (is_high_surrogate u) (content (after_high u) xs) (cond (is_low_surrogate u) None (prepend (encode_utf8 u) (content plain xs)))) o ≡ Some s
    → ((u : ℕ) → is_high_surrogate u ≡ true → Reading (after_high u) xs) → PlainReading xs → IsUtf8 s
u_by a b c d xs s None k t e paired later = absurd (cc e)
u_by a b c d xs s (Some u) k t e paired later =
    let behind = behind_digits a b c d u xs t k in
    unit_by u xs s (is_high_surrogate u) (is_low_surrogate u) refl refl behind.1 behind.0 e (paired u) later

pair_by : (high low : ℕ) (xs s : List ℕ) (is_low : Bool) → is_high_surrogate high ≡ true → is_low_surrogate low ≡ is_low → IsUtf8 xs
    → cond is_low (prepend (encode_utf8 (surrogate_pair high low)) (content plain xs)) None ≡ Some s → PlainReading xs → IsUtf8 s
pair_by high low xs s true h l t e later = char_then (encode_utf8 (surrogate_pair high low)) xs s (IsUtf8-encode (surrogate_pair high low) (pair_scalar high low h l)) t e later
pair_by high low xs s false h l t e later = absurd (cc e)

low_by : (high a b c d : ℕ) (xs s : List ℕ) (o : Option ℕ) → is_high_surrogate high ≡ true → code_unit a b c d ≡ o → IsUtf8 (a ∷ b ∷ c ∷ d ∷ xs)
    → option_and_then (λ l. cond (is_low_surrogate l) (prepend (encode_utf8 (surrogate_pair high l)) (content plain xs)) None) o ≡ Some s → PlainReading xs → IsUtf8 s
low_by high a b c d xs s None h k t e later = absurd (cc e)
low_by high a b c d xs s (Some l) h k t e later = pair_by high l xs s (is_low_surrogate l) h refl (behind_digits a b c d l xs t k).0 e later

high_by : (high x u a b c d : ℕ) (xs s : List ℕ) (is_escape : Bool) → is_high_surrogate high ≡ true → ((x == 92) && (u == 117)) ≡ is_escape → IsUtf8 (x ∷ u ∷ a ∷ b ∷ c ∷ d ∷ xs)
    → cond is_escape (option_and_then (λ l. cond (is_low_surrogate l) (prepend (encode_utf8 (surrogate_pair high l)) (content plain xs)) None) (code_unit a b c d)) None ≡ Some s
    → PlainReading xs → IsUtf8 s
high_by high x u a b c d xs s true h is t e later =
    let p = and_parts (x == 92) (u == 117) is in
    let behind = behind_text u (a ∷ b ∷ c ∷ d ∷ xs) (omega (arith, eqb-true u 117 p.1)) (behind_text x (u ∷ a ∷ b ∷ c ∷ d ∷ xs) (omega (arith, eqb-true x 92 p.0)) t) in
    low_by high a b c d xs s (code_unit a b c d) h refl behind e later
high_by high x u a b c d xs s false h is t e later = absurd (cc e)

mutual
  unfolding content

  pub plain_text : (xs : List ℕ) → PlainReading xs
  plain_text [] p s t e = absurd (cc e)
  plain_text (x ∷ xs) p s t e = plain_by x xs p s (x == 34) (x == 92) (nat_lt x 32) refl refl t e (backslash_text xs) (plain_text xs)

  backslash_text : (xs : List ℕ) → Reading after_backslash xs
  backslash_text [] s t e = absurd (cc e)
  backslash_text (x ∷ xs) s t e = backslash_by x xs s (x == 117) refl (short_escape x) refl t e (u_text xs) (plain_text xs)

  u_text : (xs : List ℕ) → Reading after_u xs
  u_text [] s t e = absurd (cc e)
  u_text (a ∷ []) s t e = absurd (cc e)
  u_text (a ∷ b ∷ []) s t e = absurd (cc e)
  u_text (a ∷ b ∷ c ∷ []) s t e = absurd (cc e)
  u_text (a ∷ b ∷ c ∷ d ∷ xs) s t e = u_by a b c d xs s (code_unit a b c d) refl t e (λ u high. high_text u xs high) (plain_text xs)

  high_text : (h : ℕ) (xs : List ℕ) → is_high_surrogate h ≡ true → Reading (after_high h) xs
  high_text h [] high s t e = absurd (cc e)
  high_text h (x ∷ []) high s t e = absurd (cc e)
  high_text h (x ∷ u ∷ []) high s t e = absurd (cc e)
  high_text h (x ∷ u ∷ a ∷ []) high s t e = absurd (cc e)
  high_text h (x ∷ u ∷ a ∷ b ∷ []) high s t e = absurd (cc e)
  high_text h (x ∷ u ∷ a ∷ b ∷ c ∷ []) high s t e = absurd (cc e)
  high_text h (x ∷ u ∷ a ∷ b ∷ c ∷ d ∷ xs) high s t e = high_by h x u a b c d xs s ((x == 92) && (u == 117)) high refl t e (plain_text xs)
