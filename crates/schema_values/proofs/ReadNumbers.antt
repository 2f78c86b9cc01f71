-- A number that is read in a JSON text is a float or lies from -2^63 to 2^64-1.
use Rattle.std.proofs.Common.{◌≡◌, ℕ, zero, suc, ◌-◌, ◌^◌, ◌<◌, ◌≤◌, ℤ, pos, neg_ℤ, List, Bool, true, false, ◌&&◌, ◌==◌, nat_lt, nat_le, drop, slice_index, cond, Some, refl, subst, arith}
use Rattle.std.specs.Prelude.{⊤}
use Rattle.std.proofs.lemmas.Bool.{and_parts, ltb-true, leb-true}
use Rattle.std.proofs.lemmas.Option.{cond_some}
use lib.Dec.{le→leb}
use Rattle.std.specs.Float.Numeral.{minus, Parts, scan_numeral as scan, numeral_digits as digits_of, nearest_float}
use Rattle.std.specs.Float.{binary64, float_is_finite}
use Rattle.serde_json.specs.Data.{Num, unsigned, negative, float}
use Rattle.serde_json.specs.Read.{is_integer, float_of, number_from, number_of}
use Rattle.schema_values.specs.Reading.{whole_of}
use Rattle.schema_values.specs.Sound.{IsWhole}

abbrev pub IsReadNumber : Num → Type 0
IsReadNumber (unsigned n) = IsWhole (pos n)
IsReadNumber (negative z) = IsWhole z
IsReadNumber (float x) = ⊤

whole_pos : (n : ℕ) → n < 2 ^ 64 → IsWhole (pos n)
whole_pos n h = (record { le = tt }, record { le = le→leb n (2 ^ 64 - 1) (omega (arith, h)) })

whole_neg : (n : ℕ) → n ≤ 2 ^ 63 → IsWhole (neg_ℤ (pos n))
whole_neg zero h = (record { le = tt }, record { le = tt })
whole_neg (suc n) h = (record { le = le→leb n (2 ^ 63 - 1) (omega (arith, h)) }, record { le = tt })

float_read : (sign : Bool) (p : Parts) (n : Num) → float_of sign p ≡ Some n → IsReadNumber n
float_read sign p n e = let x = nearest_float binary64 sign p in subst IsReadNumber (cond_some (float_is_finite x) (float x) n e).1 tt

number_from_read : (sign : Bool) (p : Parts) (n : Num) → number_from sign p ≡ Some n → IsReadNumber n
number_from_read false p n e = by_test (is_integer p && nat_lt (digits_of p) (2 ^ 64)) refl e
  where
    by_test : (b : Bool) → (is_integer p && nat_lt (digits_of p) (2 ^ 64)) ≡ b → cond b (Some (unsigned (digits_of p))) (float_of false p) ≡ Some n → IsReadNumber n
    by_test true h e = let same : unsigned (digits_of p) ≡ n = cc e in subst IsReadNumber same (whole_pos (digits_of p) (ltb-true _ _ (and_parts (is_integer p) _ h).1))
    by_test false h e = float_read false p n e
number_from_read true p n e = by_test (is_integer p && nat_lt 0 (digits_of p) && nat_le (digits_of p) (2 ^ 63)) refl e
  where
    by_test : (b : Bool) → (is_integer p && nat_lt 0 (digits_of p) && nat_le (digits_of p) (2 ^ 63)) ≡ b → cond b (Some (negative (neg_ℤ (pos (digits_of p))))) (float_of true p) ≡ Some n → IsReadNumber n
    by_test true h e =
        let same : negative (neg_ℤ (pos (digits_of p))) ≡ n = cc e in
        subst IsReadNumber same (whole_neg (digits_of p) (leb-true _ _ (and_parts (is_integer p && nat_lt 0 (digits_of p)) _ h).1))
    by_test false h e = float_read true p n e

pub number_read : (s : List ℕ) (n : Num) → number_of s ≡ Some n → IsReadNumber n
unfolding number_of
number_read s n e = by_test (slice_index s 0 == minus) e
  where
    by_test : (b : Bool) → cond b (number_from true (scan (drop 1 s))) (number_from false (scan s)) ≡ Some n → IsReadNumber n
    by_test true e = number_from_read true (scan (drop 1 s)) n e
    by_test false e = number_from_read false (scan s) n e

pub whole_read : (n : Num) (z : ℤ) → IsReadNumber n → whole_of n ≡ Some z → IsWhole z
whole_read (unsigned n) z h e = let same : pos n ≡ z = cc e in subst IsWhole same h
whole_read (negative y) z h e = let same : y ≡ z = cc e in subst IsWhole same h
whole_read (float x) z h e = absurd (cc e)
