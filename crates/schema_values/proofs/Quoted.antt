-- Runs of bytes that stand for themselves between quotation marks.
use Rattle.std.proofs.Common.{◌≡◌, ◌≢◌, ◌≤◌, ◌<◌, ◌-◌, ◌+◌, ℕ, zero, suc, List, [], ◌∷◌, ◌++◌, length, get_or, take, drop, refl, sym, ap, ap₂, ◌∙◌, subst, arith, chars, IsUtf8, ⊎_elim, append_assoc}
use Rattle.std.specs.List.{AllByRecursion, flat_map}
use Rattle.std.specs.Str.{IsCharBoundary}
use Rattle.std.proofs.Math.Utf8.{encode, encodes}
use Rattle.std.proofs.lemmas.Str.{encodes-chars, chars-append, chars_past_char, encode_ascii, IsUtf8-drop, IsUtf8-between, IsCharBoundary-before_ascii}
use Rattle.std.proofs.lemmas.List.{get_or-drop, drop_more, take-append-drop, drop-drop, length-drop, take_all}
use Rattle.std.proofs.lemmas.Grind.{flat_map-append}
use Rattle.std.proofs.lemmas.Bool.{cases_lt}
use Rattle.std.proofs.lemmas.Bool.Decides.{nat_tests}
use Rattle.schema_values.specs.Print.{escape}
use Rattle.schema_values.specs.Quoting.{IsUnescaped}
use Rattle.schema_values.proofs.Utf8Order.{Bytes, one, two, three, four, bytes_of}

above : (c : ℕ) → 128 ≤ c → escape c ≡ c ∷ []
unfolding escape
above c h = grind (arith, nat_tests)

below : (c : ℕ) → 32 ≤ c → c ≢ 34 → c ≢ 92 → escape c ≡ c ∷ []
unfolding escape
below c h q b = grind (arith, nat_tests)

after_front : (P : ℕ → Type 0) (xs ys : List ℕ) → AllByRecursion P (xs ++ ys) → AllByRecursion P xs × AllByRecursion P ys
after_front P [] ys h = (tt, h)
after_front P (x ∷ xs) ys h = let rest = after_front P xs ys h.1 in ((h.0, rest.0), rest.1)

itself : (c : ℕ) → AllByRecursion IsUnescaped (encode c) → Bytes c → escape c ≡ c ∷ []
itself c h (one low e) = let p : AllByRecursion IsUnescaped (c ∷ []) = rw e at h in below c p.0.0 p.0.1 p.0.2
itself c h (two low high e) = above c low
itself c h (three low high e) = above c (omega arith)
itself c h (four low e) = above c (omega arith)

characters_plain : (cs : List ℕ) → AllByRecursion IsUnescaped (encodes cs) → flat_map escape cs ≡ cs
characters_plain [] h = refl
characters_plain (c ∷ cs) h =
    let parts = after_front IsUnescaped (encode c) (encodes cs) h in
    ap₂ (λ (xs ys : List ℕ). xs ++ ys) (itself c parts.0 (bytes_of c)) (characters_plain cs parts.1)

escape_plain : (bs : List ℕ) → IsUtf8 bs → AllByRecursion IsUnescaped bs → flat_map escape (chars bs) ≡ chars bs
escape_plain bs u h = characters_plain (chars bs) (rw (encodes-chars bs u) h)

front_plain : (bs : List ℕ) (count : ℕ) → count ≤ length bs → ((k : ℕ) → k < count → IsUnescaped (get_or bs k 0)) → AllByRecursion IsUnescaped (take count bs)
front_plain bs zero h p = tt
front_plain [] (suc n) h p = tt
front_plain (b ∷ bs) (suc n) h p = (p 0 (omega arith), front_plain bs n (omega arith) (λ k less. p (suc k) (omega arith)))

run_plain : (bs : List ℕ) (start count : ℕ) → start + count ≤ length bs → ((k : ℕ) → start ≤ k → k < start + count → IsUnescaped (get_or bs k 0)) → AllByRecursion IsUnescaped (take count (drop start bs))
run_plain bs start count h p =
    front_plain (drop start bs) count (omega (arith, length-drop start bs)) (λ k less. subst IsUnescaped (sym (get_or-drop start bs k 0)) (p (start + k) (omega arith) (omega arith)))

-- a byte that does not stand for itself is no part of another character
pub low_mark : (b : ℕ) → (IsUnescaped b → ⊥) → b < 128
low_mark b marked = ⊎_elim (λ low. low) (λ high. absurd (marked (omega arith, (λ e. omega arith), (λ e. omega arith)))) (cases_lt b 128)

-- a run, the mark behind it and the rest
pub run_written : (bs : List ℕ) (start at : ℕ) → IsUtf8 bs → start ≤ at → at < length bs → IsCharBoundary bs start → get_or bs at 0 < 128 → ((k : ℕ) → start ≤ k → k < at → IsUnescaped (get_or bs k 0))
    → flat_map escape (chars (drop start bs)) ≡ chars (take (at - start) (drop start bs)) ++ (escape (get_or bs at 0) ++ flat_map escape (chars (drop (at + 1) bs)))
run_written bs start at u le less edge low p =
    let count = at - start in
    let run = take count (drop start bs) in
    let run_text = IsUtf8-between bs start at u le edge (IsCharBoundary-before_ascii bs at less low) in
    let place : start + count ≡ at = omega arith in
    let behind : drop count (drop start bs) ≡ drop at bs = drop-drop count start bs ∙ ap (λ k. drop k bs) place in
    let split : drop start bs ≡ run ++ get_or bs at 0 ∷ drop (at + 1) bs = sym (take-append-drop count (drop start bs)) ∙ ap (λ xs. run ++ xs) (behind ∙ drop_more bs at 0 less) in
    let later = IsUtf8-drop bs at u (IsCharBoundary-before_ascii bs at less low) in
    let first : chars (drop at bs) ≡ get_or bs at 0 ∷ chars (drop (at + 1) bs) = chars_past_char (drop at bs) (drop (at + 1) bs) (get_or bs at 0) later (drop_more bs at 0 less ∙ ap (λ xs. xs ++ drop (at + 1) bs) (sym (encode_ascii (get_or bs at 0) low))) in
    let all : chars (drop start bs) ≡ chars run ++ get_or bs at 0 ∷ chars (drop (at + 1) bs) =
    ap chars (sym (take-append-drop count (drop start bs)) ∙ ap (λ xs. run ++ xs) behind) ∙ chars-append run (drop at bs) run_text ∙ ap (λ xs. chars run ++ xs) first in
    ap (flat_map escape) all ∙ flat_map-append escape (chars run) _
    ∙ ap (λ xs. xs ++ (escape (get_or bs at 0) ++ flat_map escape (chars (drop (at + 1) bs)))) (escape_plain run run_text (run_plain bs start count (omega arith) (λ k a b. p k a (omega (arith, place)))))

-- a run up to the end
pub run_ends : (bs : List ℕ) (start at : ℕ) → IsUtf8 bs → start ≤ at → at ≡ length bs → IsCharBoundary bs start → ((k : ℕ) → start ≤ k → k < at → IsUnescaped (get_or bs k 0))
    → flat_map escape (chars (drop start bs)) ≡ chars (take (at - start) (drop start bs))
run_ends bs start at u le end edge p =
    let count = at - start in
    let rest = drop start bs in
    let whole : take count rest ≡ rest = take_all count rest (omega (arith, length-drop start bs, end)) in
    escape_plain rest (IsUtf8-drop bs start u edge) (subst (AllByRecursion IsUnescaped) whole (run_plain bs start count (omega (arith, end)) (λ k a b. p k a (omega (arith, le)))))
    ∙ ap chars (sym whole)

pub run_joined : (out run mark rest : List ℕ) → ((out ++ run) ++ mark) ++ rest ≡ out ++ (run ++ (mark ++ rest))
run_joined out run mark rest = simp append_assoc
