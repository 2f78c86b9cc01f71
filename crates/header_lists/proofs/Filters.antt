-- Lists that are filtered twice.
use Rattle.std.proofs.Common.{◌≡◌, Bool, true, false, List, [], ◌∷◌, filter, refl, sym, ap, ◌∙◌, inl, inr}
use Rattle.std.proofs.lemmas.Bool.{cases_Bool, cond-true, cond-false}

module _ {X : Type 0} (p q : X → Bool) where
  -- what passes the one test does not pass the other
  pub filter-none : ((x : X) → p x ≡ true → q x ≡ false) → (xs : List X) → filter p (filter q xs) ≡ []
  filter-none apart [] = refl
  filter-none apart (x ∷ xs) =
      elim (cases_Bool (q x)) [
        | inl holds ↦
            ap (filter p) (cond-true (q x) (x ∷ filter q xs) (filter q xs) holds)
            ∙ elim (cases_Bool (p x)) [
              | inl both ↦ absurd (cc (holds, apart x both))
              | inr other ↦
                  cond-false (p x) (x ∷ filter p (filter q xs)) (filter p (filter q xs)) other ∙ filter-none apart xs
            ]
        | inr fails ↦ ap (filter p) (cond-false (q x) (x ∷ filter q xs) (filter q xs) fails) ∙ filter-none apart xs
      ]

  -- what passes the one test passes the other
  pub filter-both : ((x : X) → p x ≡ true → q x ≡ true) → (xs : List X) → filter p (filter q xs) ≡ filter p xs
  filter-both within [] = refl
  filter-both within (x ∷ xs) =
      elim (cases_Bool (p x)) [
        | inl holds ↦
            ap (filter p) (cond-true (q x) (x ∷ filter q xs) (filter q xs) (within x holds))
            ∙ cond-true (p x) (x ∷ filter p (filter q xs)) (filter p (filter q xs)) holds
            ∙ ap (λ (ys : List X). x ∷ ys) (filter-both within xs)
            ∙ sym (cond-true (p x) (x ∷ filter p xs) (filter p xs) holds)
        | inr fails ↦
            elim (cases_Bool (q x)) [
              | inl stays ↦
                  ap (filter p) (cond-true (q x) (x ∷ filter q xs) (filter q xs) stays)
                  ∙ cond-false (p x) (x ∷ filter p (filter q xs)) (filter p (filter q xs)) fails
                  ∙ filter-both within xs
              | inr goes ↦ ap (filter p) (cond-false (q x) (x ∷ filter q xs) (filter q xs) goes) ∙ filter-both within xs
            ]
            ∙ sym (cond-false (p x) (x ∷ filter p xs) (filter p xs) fails)
      ]
