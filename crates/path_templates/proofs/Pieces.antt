-- The pieces of a text, at its first slash.
use Rattle.std.proofs.Common.{◌≡◌, ◌==◌, ℕ, suc, ◌+◌, ◌-◌, length-drop, ◌<◌, ◌≤◌, Bool, List, [], ◌∷◌, length, take, drop, Some, None, refl, sym, ◌∙◌, inl, inr, arith}
use Rattle.std.proofs.Math.Seq.{take-length}
use Rattle.std.specs.Prelude.{nat_lt, position}
use Rattle.std.specs.List.{position_or_len}
use Rattle.std.proofs.lemmas.Bool.{cases_Bool}
use Rattle.std.proofs.lemmas.Bool.Decides.{nat_tests}
use Rattle.path_templates.specs.Segments.{pieces}

abbrev is_slash : ℕ → Bool
is_slash c = c == 47

-- where the first slash stands, or the length
abbrev end : List ℕ → ℕ
end text = position_or_len is_slash text

cut : (text : List ℕ) → end text < length text → pieces text ≡ take (end text) text ∷ pieces (drop (end text + 1) text)
cut [] inside = absurd (omega arith)
cut (c ∷ cs) inside = elim (cases_Bool (c == 47)) [
  | inl here ↦ rw here refl
  | inr other ↦
      let after : end (c ∷ cs) ≡ suc (end cs) = rw other (omega arith) in
      let within : end cs < length cs = omega (arith, after, inside) in
      let further : suc (end cs) + 1 ≡ suc (end cs + 1) = omega arith in
      rw (after, further, other, cut cs within) refl
]

whole : (text : List ℕ) → length text ≤ end text → pieces text ≡ text ∷ []
whole [] beyond = refl
whole (c ∷ cs) beyond = elim (cases_Bool (c == 47)) [
  | inl here ↦ let none : end (c ∷ cs) ≡ 0 = rw here refl in absurd (omega (arith, none, beyond))
  | inr other ↦
      let after : end (c ∷ cs) ≡ suc (end cs) = rw other (omega arith) in
      let past : length cs ≤ end cs = omega (arith, after, beyond) in
      rw (other, whole cs past) refl
]

-- at the first slash, if there is one
pub cut_at : (text : List ℕ) (place : ℕ) → position is_slash text ≡ Some place → (place < length text) × (pieces text ≡ take place text ∷ pieces (drop (place + 1) text))
cut_at text place e = elim (cases_Bool (nat_lt (end text) (length text))) [
  | inl inside ↦
      let is : Some (end text) ≡ Some place = sym (rw inside refl) ∙ e in
      let same : end text ≡ place = cc is in
      let within : end text < length text = grind (arith, nat_tests) in
      rw (← same) (within, cut text within)
  | inr beyond ↦ let none : None ≡ Some place = sym (rw beyond refl) ∙ e in absurd (cc none)
]

pub cut_nowhere : (text : List ℕ) → position is_slash text ≡ None → pieces text ≡ text ∷ []
cut_nowhere text e = elim (cases_Bool (nat_lt (end text) (length text))) [
  | inl inside ↦ let some : Some (end text) ≡ None = sym (rw inside refl) ∙ e in absurd (cc some)
  | inr beyond ↦ let past : length text ≤ end text = grind (arith, nat_tests) in whole text past
]

-- all of what is behind a place
pub rest_whole : (n : ℕ) (text : List ℕ) → take (length text - n) (drop n text) ≡ drop n text
rest_whole n text = let e : length text - n ≡ length (drop n text) = grind (arith, length-drop) in rw e (take-length (drop n text))
