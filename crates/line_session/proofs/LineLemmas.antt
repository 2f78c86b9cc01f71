-- The lines of a text, and how long they are.
use Rattle.std.proofs.Common.{◌≡◌, ◌≢◌, ℕ, suc, ◌≤◌, List, [], ◌∷◌, ◌++◌, length, refl, sym, ap, ◌∙◌, subst, arith, append_assoc}
use Rattle.std.proofs.lemmas.Bool.Decides.{nat_tests}
use Rattle.std.specs.List.{AllByRecursion}
use Rattle.line_session.specs.Lines.{IsLine, Fits, end_line, ended, all_lines, lines_of, before_first, HasShortLines}
use Rattle.line_session.proofs.Going.{all-more}

-- a byte that is no newline
byte-first : (b : ℕ) (bs : List ℕ) → b ≢ 10 → lines_of (b ∷ bs) ≡ before_first b (lines_of bs)
byte-first b bs n = grind (arith, nat_tests)

line-first : (line rest : List ℕ) → IsLine line → lines_of (line ++ 10 ∷ rest) ≡ line ∷ lines_of rest
line-first [] rest p = refl
line-first (b ∷ bs) rest p = byte-first b (bs ++ 10 ∷ rest) p.0 ∙ ap (before_first b) (line-first bs rest p.1)

line-last : (b : ℕ) (bs : List ℕ) → IsLine (b ∷ bs) → lines_of (b ∷ bs) ≡ (b ∷ bs) ∷ []
line-last b [] p = byte-first b [] p.0
line-last b (d ∷ ds) p = byte-first b (d ∷ ds) p.0 ∙ ap (before_first b) (line-last d ds p.1)

all-tail : (tail : List ℕ) → IsLine tail → lines_of tail ≡ all_lines [] tail
all-tail [] p = refl
all-tail (b ∷ bs) p = line-last b bs p

all_lines-first : (line : List ℕ) (lines : List (List ℕ)) (tail : List ℕ) → line ∷ all_lines lines tail ≡ all_lines (line ∷ lines) tail
all_lines-first line lines [] = refl
all_lines-first line lines (b ∷ bs) = refl

ended-first : (line : List ℕ) (lines : List (List ℕ)) (rest : List ℕ) → IsLine line → lines_of (ended (line ∷ lines) ++ rest) ≡ line ∷ lines_of (ended lines ++ rest)
ended-first line lines rest p =
    ap lines_of (append_assoc (end_line line) (ended lines) rest ∙ append_assoc line (10 ∷ []) (ended lines ++ rest)) ∙ line-first line (ended lines ++ rest) p

-- the lines of a text that was read line by line
pub lines_of-read : (longest : ℕ) (lines : List (List ℕ)) (tail : List ℕ) → AllByRecursion (Fits longest) lines → IsLine tail
    → lines_of (ended lines ++ tail) ≡ all_lines lines tail
lines_of-read longest [] tail p q = all-tail tail q
lines_of-read longest (l ∷ ls) tail p q =
    ended-first l ls tail p.0.line_only ∙ ap (λ (x : List (List ℕ)). l ∷ x) (lines_of-read longest ls tail p.1 q) ∙ all_lines-first l ls tail

-- ---- how long the lines are

abbrev IsShort : ℕ → List ℕ → Type 0
IsShort longest line = length line ≤ longest

each-short : (longest : ℕ) (lines : List (List ℕ)) → AllByRecursion (Fits longest) lines → AllByRecursion (IsShort longest) lines
each-short longest [] p = tt
each-short longest (l ∷ ls) p = (p.0.short, each-short longest ls p.1)

all-short : (longest : ℕ) (lines : List (List ℕ)) (tail : List ℕ) → AllByRecursion (Fits longest) lines → Fits longest tail → AllByRecursion (IsShort longest) (all_lines lines tail)
all-short longest lines [] p q = each-short longest lines p
all-short longest lines (b ∷ bs) p q = all-more (IsShort longest) lines (b ∷ bs) (each-short longest lines p) q.short

-- what was read line by line has no long line
pub HasShortLines-read : (longest : ℕ) (lines : List (List ℕ)) (tail : List ℕ) → AllByRecursion (Fits longest) lines → Fits longest tail → HasShortLines longest (ended lines ++ tail)
HasShortLines-read longest lines tail p q = subst (AllByRecursion (IsShort longest)) (sym (lines_of-read longest lines tail p q.line_only)) (all-short longest lines tail p q)

first_length : List (List ℕ) → ℕ
first_length [] = 0
first_length (line ∷ lines) = length line

first_length-before_first : (b : ℕ) (lines : List (List ℕ)) → first_length (before_first b lines) ≡ suc (first_length lines)
unfolding first_length
first_length-before_first b [] = refl
first_length-before_first b (line ∷ lines) = refl

first_length-short : (longest : ℕ) (lines : List (List ℕ)) → AllByRecursion (IsShort longest) lines → first_length lines ≤ longest
unfolding first_length
first_length-short longest [] p = omega arith
first_length-short longest (line ∷ lines) p = p.0

-- bytes with no newline are in one line
run-first : (run rest : List ℕ) → IsLine run → length run ≤ first_length (lines_of (run ++ rest))
run-first [] rest p = omega arith
run-first (b ∷ bs) rest p =
    let e : first_length (lines_of (b ∷ bs ++ rest)) ≡ suc (first_length (lines_of (bs ++ rest))) =
    ap first_length (byte-first b (bs ++ rest) p.0) ∙ first_length-before_first b (lines_of (bs ++ rest)) in
    omega (arith, e, run-first bs rest p.1)

-- where no line is long, no bytes without a newline behind whole lines are
pub run-short : (longest : ℕ) (lines : List (List ℕ)) (run rest : List ℕ) → AllByRecursion (Fits longest) lines → IsLine run
    → HasShortLines longest (ended lines ++ (run ++ rest)) → length run ≤ longest
run-short longest [] run rest p q short = omega (arith, run-first run rest q, first_length-short longest (lines_of (run ++ rest)) short)
run-short longest (l ∷ ls) run rest p q short =
    run-short longest ls run rest p.1 q (subst (AllByRecursion (IsShort longest)) (ended-first l ls (run ++ rest) p.0.line_only) short).1
