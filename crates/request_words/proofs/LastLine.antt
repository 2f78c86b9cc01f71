-- The last line of a name, where the lines are gone through from the end.
use Rattle.std.proofs.Common.{◌≡◌, ℕ, true, false, cond, List, [], ◌∷◌, ◌++◌, Some, None, ap}
use Rattle.request_words.specs.declared.request.HeaderLine.{HeaderLine}
use Rattle.request_words.specs.HeaderLines.{is_line_of, later_or, last_line}

-- behind the lines stands one of the name
pub last_line-here : (name : List ℕ) (lines : List HeaderLine) (line : HeaderLine) → is_line_of name line ≡ true → last_line name (lines ++ line ∷ []) ≡ Some line.value
last_line-here name [] line h = ap (λ b. cond b (Some line.value) None) h
last_line-here name (first ∷ lines) line h = ap (λ o. later_or o name first) (last_line-here name lines line h)

-- behind the lines stands one of another name
pub last_line-other : (name : List ℕ) (lines : List HeaderLine) (line : HeaderLine) → is_line_of name line ≡ false → last_line name (lines ++ line ∷ []) ≡ last_line name lines
last_line-other name [] line h = ap (λ b. cond b (Some line.value) None) h
last_line-other name (first ∷ lines) line h = ap (λ o. later_or o name first) (last_line-other name lines line h)
