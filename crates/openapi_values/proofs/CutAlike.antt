-- A number that is cut stands alike to the numbers of 64 bits.
use Rattle.std.proofs.Common.{◌≡◌, ◌↔◌, IsTrue, List, Option, Some, None, option_map, ℕ, zero, suc, ℤ, pos, negsuc, ◌^◌, ◌-◌, ◌≤◌, ◌<◌, leb, T, Bool, true, false, true≢false, int_le, int_lt, refl, sym, ◌∙◌, ap, subst, arith}
use Rattle.std.specs.Ordering.{int_eq}
use Rattle.std.proofs.Math.Nat.{lt_of_not-le}
use Rattle.std.proofs.lemmas.Bool.{leb-true, ltb-true, le-leb, lt-ltb}
use Rattle.std.proofs.lemmas.Bool.Decides.{Decides-int_eq, same_from_decides}
use Rattle.schema_values.specs.declared.json_value.Json.{Json, Int}
use Rattle.schema_values.specs.Sound.{IsSound, IsWhole}
use Rattle.request_words.specs.CutNumbers.{cut, cut_number_of}
use Rattle.openapi_values.specs.JsonAdmits.{JsonAdmits}
use Rattle.openapi_values.specs.Options.{is_some_and}
use Rattle.openapi_values.specs.Room.{room}
use Rattle.request_words.specs.Numbers.{digits_number, has_minus, without_sign, signed, number_of}
use Rattle.openapi_values.specs.TextAdmits.{json_admitted}
use Rattle.openapi_values.proofs.FarNumbers.{StandAlike, admitted_alike}

neither : (x y : Bool) → (x ≡ true → ⊥) → (y ≡ true → ⊥) → x ≡ y
neither true y f g = absurd (f refl)
neither false true f g = absurd (g refl)
neither false false f g = refl

same_alike : (n m : ℤ) → n ≡ m → StandAlike n m
same_alike n m e = subst (λ x. StandAlike n x) e (record { above = λ k h. refl; below = λ k h. refl; over = λ k h. refl; under = λ k h. refl; equal = λ k h. refl })

truly : (b : Bool) → T b → b ≡ true
truly true t = refl
truly false t = absurd t

most_of : (a : ℕ) → IsWhole (pos a) → a < 2 ^ 64
most_of a h = let most = leb-true a (2 ^ 64 - 1) (truly _ h.1.le) in omega (arith, most)

least_of : (a : ℕ) → IsWhole (negsuc a) → a < 2 ^ 63
least_of a h = let least = leb-true a (2 ^ 63 - 1) (truly _ h.0.le) in omega (arith, least)

module _ (a b : ℕ) (far : 2 ^ 64 ≤ a) (also : 2 ^ 64 ≤ b) where
  above_le : (k : ℤ) → IsWhole k → int_le k (pos a) ≡ int_le k (pos b)
  above_le (pos j) h = let less = most_of j h in le-leb j a (omega (arith, less, far)) ∙ sym (le-leb j b (omega (arith, less, also)))
  above_le (negsuc j) h = refl

  above_ge : (k : ℤ) → IsWhole k → int_le (pos a) k ≡ int_le (pos b) k
  above_ge (pos j) h = let less = most_of j h in neither _ _ (λ e. let under = leb-true a j e in omega (arith, less, under, far)) (λ e. let under = leb-true b j e in omega (arith, less, under, also))
  above_ge (negsuc j) h = refl

  above_lt : (k : ℤ) → IsWhole k → int_lt k (pos a) ≡ int_lt k (pos b)
  above_lt (pos j) h = let less = most_of j h in lt-ltb j a (omega (arith, less, far)) ∙ sym (lt-ltb j b (omega (arith, less, also)))
  above_lt (negsuc j) h = refl

  above_gt : (k : ℤ) → IsWhole k → int_lt (pos a) k ≡ int_lt (pos b) k
  above_gt (pos j) h = let less = most_of j h in neither _ _ (λ e. let under = ltb-true a j e in omega (arith, less, under, far)) (λ e. let under = ltb-true b j e in omega (arith, less, under, also))
  above_gt (negsuc j) h = refl

  above_eq : (k : ℤ) → IsWhole k → int_eq (pos a) k ≡ int_eq (pos b) k
  above_eq k h = neither _ _
      (λ e. let less = most_of a (subst IsWhole (sym ((Decides-int_eq (pos a) k).0 e)) h) in omega (arith, less, far))
      (λ e. let less = most_of b (subst IsWhole (sym ((Decides-int_eq (pos b) k).0 e)) h) in omega (arith, less, also))

  above_alike : StandAlike (pos a) (pos b)
  above_alike = record { above = above_le; below = above_ge; over = above_lt; under = above_gt; equal = above_eq }

module _ (a b : ℕ) (far : 2 ^ 63 ≤ a) (also : 2 ^ 63 ≤ b) where
  below_le : (k : ℤ) → IsWhole k → int_le k (negsuc a) ≡ int_le k (negsuc b)
  below_le (pos j) h = refl
  below_le (negsuc j) h = let less = least_of j h in neither _ _ (λ e. let under = leb-true a j e in omega (arith, less, under, far)) (λ e. let under = leb-true b j e in omega (arith, less, under, also))

  below_ge : (k : ℤ) → IsWhole k → int_le (negsuc a) k ≡ int_le (negsuc b) k
  below_ge (pos j) h = refl
  below_ge (negsuc j) h = let less = least_of j h in le-leb j a (omega (arith, less, far)) ∙ sym (le-leb j b (omega (arith, less, also)))

  below_lt : (k : ℤ) → IsWhole k → int_lt k (negsuc a) ≡ int_lt k (negsuc b)
  below_lt (pos j) h = refl
  below_lt (negsuc j) h = let less = least_of j h in neither _ _ (λ e. let under = ltb-true a j e in omega (arith, less, under, far)) (λ e. let under = ltb-true b j e in omega (arith, less, under, also))

  below_gt : (k : ℤ) → IsWhole k → int_lt (negsuc a) k ≡ int_lt (negsuc b) k
  below_gt (pos j) h = refl
  below_gt (negsuc j) h = let less = least_of j h in lt-ltb j a (omega (arith, less, far)) ∙ sym (lt-ltb j b (omega (arith, less, also)))

  below_eq : (k : ℤ) → IsWhole k → int_eq (negsuc a) k ≡ int_eq (negsuc b) k
  below_eq k h = neither _ _
      (λ e. let less = least_of a (subst IsWhole (sym ((Decides-int_eq (negsuc a) k).0 e)) h) in omega (arith, less, far))
      (λ e. let less = least_of b (subst IsWhole (sym ((Decides-int_eq (negsuc b) k).0 e)) h) in omega (arith, less, also))

  below_alike : StandAlike (negsuc a) (negsuc b)
  below_alike = record { above = below_le; below = below_ge; over = below_lt; under = below_gt; equal = below_eq }

-- as large as the cut or larger: the number is one beyond the cut; else it is not changed
beyond : (minus : Bool) (n c : ℕ) → 2 ^ 64 ≤ n → c ≡ 2 ^ 64 → StandAlike (signed minus c) (signed minus n)
beyond false n c far e = above_alike c n (omega (arith, e)) far
beyond true zero c far e = absurd (omega (arith, far))
beyond true (suc n) zero far e = absurd (omega (arith, e))
beyond true (suc n) (suc c) far e = below_alike c n (omega (arith, e)) (omega (arith, far))

pub cut_alike : (minus : Bool) (n : ℕ) → StandAlike (signed minus (cut n)) (signed minus n)
cut_alike minus n = by_size (leb (2 ^ 64) n) refl
  where
    by_size : (b : Bool) → leb (2 ^ 64) n ≡ b → StandAlike (signed minus (cut n)) (signed minus n)
    by_size true e = let far = leb-true (2 ^ 64) n e in beyond minus n (cut n) far (omega (arith, far))
    by_size false e =
        let small : n < 2 ^ 64 = lt_of_not-le (λ far. true≢false (sym (le-leb (2 ^ 64) n far) ∙ e)) in
        same_alike _ _ (ap (signed minus) (omega (arith, small)))

-- whether the number of a text is admitted is told by the number that is cut
pub told_cut : (doc s : Json) → IsSound doc → IsSound s → (text : List ℕ) (k : ℤ) → cut_number_of text ≡ Some k → (b : Bool) → (IsTrue b ↔ JsonAdmits doc s (Int k))
    → b ≡ is_some_and (number_of text) (λ n. json_admitted doc s (Int n))
told_cut doc s sound h text k is b told = by_digits (digits_number (without_sign text)) is
  where
    by_digits : (o : Option ℕ) → option_map (λ n. signed (has_minus text) (cut n)) o ≡ Some k → b ≡ is_some_and (option_map (signed (has_minus text)) o) (λ n. json_admitted doc s (Int n))
    by_digits None e = absurd (cc e)
    by_digits (Some n) e =
        let same : signed (has_minus text) (cut n) ≡ k = cc e in
        same_from_decides b (json_admitted doc s (Int k)) told (λ x. x, λ x. x)
        ∙ ap (λ (x : ℤ). json_admitted doc s (Int x)) (sym same)
        ∙ admitted_alike (signed (has_minus text) (cut n)) (signed (has_minus text) n) (cut_alike (has_minus text) n) doc (room doc s) (room doc s) sound s h
