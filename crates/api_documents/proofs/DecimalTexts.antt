-- A number in decimal digits does not end in a letter.
use Rattle.std.proofs.Common.{◌≡◌, ◌≢◌, ℕ, zero, suc, ◌+◌, ◌/◌, ◌%◌, ◌==◌, Bool, true, false, cond, nat_lt, List, []}
use Rattle.std.proofs.Common.{◌∷◌}
use Rattle.std.proofs.Common.{◌++◌, refl, sym, ◌∙◌, ap, append_assoc, arith}
use Rattle.std.proofs.lemmas.Bool.{ltb-true}
use Rattle.std.specs.Fmt.{decimal, digit_glyph, digits, digits_onto}

-- the last of some characters, 0 where there is none
abbrev last_of : List ℕ → ℕ
last_of [] = 0
last_of (c ∷ []) = c
last_of (c ∷ d ∷ cs) = last_of (d ∷ cs)

last_behind : (front : List ℕ) (c : ℕ) → last_of (front ++ c ∷ []) ≡ c
last_behind [] c = refl
last_behind (a ∷ []) c = refl
last_behind (a ∷ b ∷ front) c = last_behind (b ∷ front) c

-- the digits stand before what follows them
digits_before : (k n : ℕ) (behind : List ℕ) → (front : List ℕ) × (digits_onto k 10 false n behind ≡ front ++ behind)
digits_before zero n behind = ([], refl)
digits_before (suc k) n behind = by_test (n / 10 == 0) (digits_before k (n / 10) (digit_glyph false (n % 10) ∷ behind))
  where
    digit : ℕ
    digit = digit_glyph false (n % 10)

    later : List ℕ
    later = digits_onto k 10 false (n / 10) (digit ∷ behind)

    by_test : (b : Bool) → (front : List ℕ) × (later ≡ front ++ digit ∷ behind)
        → (front : List ℕ) × (cond b (digit ∷ behind) later ≡ front ++ behind)
    by_test true rest = (digit ∷ [], refl)
    by_test false rest =
        (rest.0 ++ digit ∷ [], rest.1 ∙ sym (append_assoc rest.0 (digit ∷ []) behind))

-- the last of them is that of the ones
last_digit : (k n : ℕ) → last_of (digits_onto (suc k) 10 false n []) ≡ digit_glyph false (n % 10)
last_digit k n = by_test (n / 10 == 0)
  where
    digit : ℕ
    digit = digit_glyph false (n % 10)

    by_test : (b : Bool) → last_of (cond b (digit ∷ []) (digits_onto k 10 false (n / 10) (digit ∷ []))) ≡ digit
    by_test true = refl
    by_test false =
        let rest = digits_before k (n / 10) (digit ∷ []) in
        ap last_of rest.1 ∙ last_behind rest.0 digit

-- a digit is no `X`
no_letter : (d : ℕ) → digit_glyph false d ≢ 88
no_letter d = by_test (nat_lt d 10) refl
  where
    by_test : (b : Bool) → nat_lt d 10 ≡ b → cond b (48 + d) (87 + d) ≢ 88
    by_test true small same = omega (arith, ltb-true d 10 small, same)
    by_test false large same =
        let one : d ≡ 1 = omega (arith, same) in
        let small : nat_lt d 10 ≡ true = ap (λ (n : ℕ). nat_lt n 10) one in absurd (cc (small, large))

-- no number is written as a text that ends in `X`
pub no_decimal : (n : ℕ) (text : List ℕ) → last_of text ≡ 88 → decimal n ≢ text
unfolding digits
no_decimal n text letter same = no_letter (n % 10) (sym (last_digit 63 n) ∙ ap last_of same ∙ letter)
