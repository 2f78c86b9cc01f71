-- A number whose size is cut is told as the number itself: both are beyond all kinds, or they are one.
use Rattle.std.proofs.Common.{◌≡◌, ℕ, zero, suc, ℤ, pos, negsuc, ◌^◌, ◌≤◌, ◌<◌, leb, Bool, true, false, true≢false, ◌&&◌, cond, List, Option, Some, None, option_map, int_le, refl, sym, ◌∙◌, ap, subst, arith}
use Rattle.std.proofs.Math.Nat.{lt_of_not-le}
use Rattle.std.proofs.lemmas.Bool.{leb-true, le-leb, false_from_ne_true}
use Rattle.std.specs.declared.result.Result.{Result}
use Rattle.std.specs.declared.result.Result.TheVariants.{Ok}
use Rattle.descriptors.specs.declared.desc.IntKind.{IntKind}
use Rattle.descriptors.specs.declared.desc.IntKind.TheVariants.{I8, I16, I32, I64, U8, U16, U32, U64}
use Rattle.descriptors.specs.declared.tree.Tree.{Tree, Int as Number}
use Rattle.typed_values.specs.declared.fault.FaultKind.TheVariants.{BadText}
use Rattle.typed_values.specs.declared.fault.Stop.{Stop}
use Rattle.typed_values.specs.Answer.{Tells}
use Rattle.typed_values.specs.Bounds.{least_of, greatest_of, is_at_least, is_at_most, is_number_of}
use Rattle.typed_values.specs.Denotes.{Told, if_holds}
use Rattle.request_words.specs.CutNumbers.{cut}
use Rattle.request_words.specs.Numbers.{digits_number, has_minus, without_sign, signed}
use Rattle.scalar_texts.specs.CutNumbers.{cut_in}
use Rattle.scalar_texts.specs.Texts.{has_no_sign, kind_name, number_or_fault, number_of_text}

too_large : (g c : ℕ) → g < c → int_le (pos c) (pos g) ≡ false
too_large g c h = false_from_ne_true _ (λ e. let under = leb-true c g e in omega (arith, h, under))

too_small : (g c : ℕ) → g < c → int_le (negsuc g) (negsuc c) ≡ false
too_small g c h = false_from_ne_true _ (λ e. let under = leb-true c g e in omega (arith, h, under))

-- a number beyond 64 bits is one of no kind
not_above : (kind : IntKind) (c : ℕ) → 2 ^ 64 ≤ c → int_le (pos c) (greatest_of kind) ≡ false
not_above I8 c far = too_large _ c (omega (arith, far))
not_above I16 c far = too_large _ c (omega (arith, far))
not_above I32 c far = too_large _ c (omega (arith, far))
not_above I64 c far = too_large _ c (omega (arith, far))
not_above U8 c far = too_large _ c (omega (arith, far))
not_above U16 c far = too_large _ c (omega (arith, far))
not_above U32 c far = too_large _ c (omega (arith, far))
not_above U64 c far = too_large _ c (omega (arith, far))

not_below : (kind : IntKind) (c : ℕ) → 2 ^ 63 ≤ c → int_le (least_of kind) (negsuc c) ≡ false
not_below I8 c far = too_small _ c (omega (arith, far))
not_below I16 c far = too_small _ c (omega (arith, far))
not_below I32 c far = too_small _ c (omega (arith, far))
not_below I64 c far = too_small _ c (omega (arith, far))
not_below U8 c far = refl
not_below U16 c far = refl
not_below U32 c far = refl
not_below U64 c far = refl

second_fails : (a b c : Bool) → b ≡ false → ((a && b) && c) ≡ false
second_fails true b c e = ap (λ x. x && c) e
second_fails false b c e = refl

first_fails : (a b c : Bool) → a ≡ false → ((a && b) && c) ≡ false
first_fails a b c e = ap (λ x. (x && b) && c) e

module _ (kind : IntKind) (min max : Option ℤ) where
  beyond : (minus : Bool) (c : ℕ) → 2 ^ 64 ≤ c → is_number_of kind min max (signed minus c) ≡ false
  beyond false c far = second_fails (int_le (least_of kind) (pos c)) _ (is_at_least min (pos c) && is_at_most max (pos c)) (not_above kind c far)
  beyond true zero far = absurd (omega (arith, far))
  beyond true (suc c) far = first_fails _ (int_le (negsuc c) (greatest_of kind)) (is_at_least min (negsuc c) && is_at_most max (negsuc c)) (not_below kind c (omega (arith, far)))

  module _ (text : List ℕ) where
    abbrev told : ℤ → Told
    told n = number_or_fault kind min max text (Some n)

    told_beyond : (n m : ℤ) → is_number_of kind min max n ≡ false → is_number_of kind min max m ≡ false → told n ≡ told m
    told_beyond n m e f = ap (λ b. if_holds b (BadText text (kind_name kind)) (Ok (Number n))) e ∙ sym (ap (λ b. if_holds b (BadText text (kind_name kind)) (Ok (Number m))) f)

    told_cut : (minus : Bool) (n : ℕ) → told (signed minus (cut n)) ≡ told (signed minus n)
    told_cut minus n = by_size (leb (2 ^ 64) n) refl
      where
        by_size : (b : Bool) → leb (2 ^ 64) n ≡ b → told (signed minus (cut n)) ≡ told (signed minus n)
        by_size true e = let far = leb-true (2 ^ 64) n e in told_beyond _ _ (beyond minus (cut n) (omega (arith, far))) (beyond minus n far)
        by_size false e =
            let small : n < 2 ^ 64 = lt_of_not-le (λ far. true≢false (sym (le-leb (2 ^ 64) n far) ∙ e)) in
            ap (λ k. told (signed minus k)) (omega (arith, small))

    -- what is told of a number that is cut
    pub cut_told : number_or_fault kind min max text (cut_in kind text) ≡ number_of_text kind min max text
    cut_told = by_sign (has_no_sign kind && has_minus text) (digits_number (without_sign text))
      where
        by_digits : (o : Option ℕ) → number_or_fault kind min max text (option_map (λ n. signed (has_minus text) (cut n)) o) ≡ number_or_fault kind min max text (option_map (signed (has_minus text)) o)
        by_digits None = refl
        by_digits (Some n) = told_cut (has_minus text) n

        by_sign : (b : Bool) (o : Option ℕ) → number_or_fault kind min max text (cond b None (option_map (λ n. signed (has_minus text) (cut n)) o)) ≡ number_or_fault kind min max text (cond b None (option_map (signed (has_minus text)) o))
        by_sign true o = refl
        by_sign false o = by_digits o

    -- an answer that tells the number that is cut tells what the text denotes
    pub number_told : (n : ℤ) → cut_in kind text ≡ Some n → (answer : Result Tree Stop) → Tells answer (told n) → Tells answer (number_of_text kind min max text)
    number_told n e answer is = subst (Tells answer) (ap (number_or_fault kind min max text) (sym e) ∙ cut_told) is
