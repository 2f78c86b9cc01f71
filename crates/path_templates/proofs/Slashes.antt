-- A path with one slash at its end, and one with none.
use Rattle.std.proofs.Common.{◌≡◌, ◌≢◌, ℕ, List, [], ◌∷◌, ◌++◌, ap, refl, arith}
use Rattle.path_templates.specs.Templates.{cut_slash, trimmed}

pub cut_slash-append : (front : List ℕ) → cut_slash (front ++ 47 ∷ []) ≡ front
cut_slash-append [] = refl
cut_slash-append (b ∷ []) = refl
cut_slash-append (b ∷ c ∷ rest) = ap (λ bs. b ∷ bs) (cut_slash-append (c ∷ rest))

pub trimmed-append : (front : List ℕ) → front ≢ [] → trimmed (front ++ 47 ∷ []) ≡ front
trimmed-append [] some = absurd (some refl)
trimmed-append (b ∷ []) some = refl
trimmed-append (b ∷ c ∷ rest) some = cut_slash-append (b ∷ c ∷ rest)

pub cut_slash-other : (path : List ℕ) → ((front : List ℕ) → path ≢ front ++ 47 ∷ []) → cut_slash path ≡ path
cut_slash-other [] none = refl
cut_slash-other (b ∷ []) none = grind (arith, none [])
cut_slash-other (b ∷ c ∷ rest) none = ap (λ bs. b ∷ bs) (cut_slash-other (c ∷ rest) (λ front e. none (b ∷ front) (ap (λ bs. b ∷ bs) e)))

pub trimmed-other : (path : List ℕ) → ((front : List ℕ) → path ≢ front ++ 47 ∷ []) → trimmed path ≡ path
trimmed-other [] none = refl
trimmed-other (b ∷ []) none = refl
trimmed-other (b ∷ c ∷ rest) none = cut_slash-other (b ∷ c ∷ rest) none
