-- Blanks at the end of bytes.
use Rattle.std.proofs.Common.{◌≡◌, ℕ, Bool, true, false, ◌&&◌, cond, List, [], ◌∷◌, ◌++◌, refl, ◌∙◌, ap}
use Rattle.std.specs.List.{list_all}
use Rattle.request_words.specs.MediaTypes.{without_end}
use Rattle.request_words.specs.HeaderLines.{is_blank}

last_tells : (xs : List ℕ) (b : ℕ) → is_blank b ≡ false → list_all is_blank (xs ++ b ∷ []) ≡ false
last_tells [] b h = ap (λ t. t && true) h
last_tells (x ∷ xs) b h = ap (λ t. is_blank x && t) (last_tells xs b h) ∙ none (is_blank x)
  where
    none : (t : Bool) → (t && false) ≡ false
    none true = refl
    none false = refl

blank_adds : (xs : List ℕ) (b : ℕ) → is_blank b ≡ true → list_all is_blank (xs ++ b ∷ []) ≡ list_all is_blank xs
blank_adds [] b h = ap (λ t. t && true) h
blank_adds (x ∷ xs) b h = ap (λ t. is_blank x && t) (blank_adds xs b h)

-- behind another byte nothing is left out
pub without_end-other : (xs : List ℕ) (b : ℕ) → is_blank b ≡ false → without_end (xs ++ b ∷ []) ≡ xs ++ b ∷ []
without_end-other [] b h = ap (λ t. cond t [] (b ∷ [])) (last_tells [] b h)
without_end-other (x ∷ xs) b h = ap (λ t. cond t [] (x ∷ without_end (xs ++ b ∷ []))) (last_tells (x ∷ xs) b h) ∙ ap (λ ys. x ∷ ys) (without_end-other xs b h)

-- a blank at the end is left out
pub without_end-blank : (xs : List ℕ) (b : ℕ) → is_blank b ≡ true → without_end (xs ++ b ∷ []) ≡ without_end xs
without_end-blank [] b h = ap (λ t. cond t [] (b ∷ [])) (ap (λ t. t && true) h)
without_end-blank (x ∷ xs) b h = ap (λ t. cond t [] (x ∷ without_end (xs ++ b ∷ []))) (blank_adds (x ∷ xs) b h) ∙ ap (λ ys. cond (list_all is_blank (x ∷ xs)) [] (x ∷ ys)) (without_end-blank xs b h)
