-- A loop that copies items in their order.
use Rattle.std.proofs.Common.{◌≡◌, ℕ, ◌+◌, ◌<◌, ◌≤◌, List, [], ◌∷◌, ◌++◌, length, take, get_or, ◌∙◌, ap₂, sym}
use Rattle.std.proofs.lemmas.List.{take_more, take_all}

module _ {X : Type 0} (xs copies : List X) (i : ℕ) (so_far : copies ≡ take i xs) where
  -- the copy of the next item behind the others
  pub one_more_copied : (more : List X) (x copy : X) → i < length xs → x ≡ get_or xs i x → copy ≡ x → more ≡ copies ++ copy ∷ [] → more ≡ take (i + 1) xs
  one_more_copied more x copy low is same pushed =
      pushed ∙ ap₂ (λ (some : List X) (y : X). some ++ y ∷ []) so_far (same ∙ is) ∙ sym (take_more xs i x low)

  pub all_copied : length xs ≤ i → copies ≡ xs
  all_copied past = so_far ∙ take_all i xs past
