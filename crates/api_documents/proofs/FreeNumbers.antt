-- The search for a number that makes a name free, step by step.
use Rattle.std.proofs.Common.{◌≡◌, ℕ, suc, ◌+◌, ◌-◌, ◌<◌, List, ◌++◌, true, false, refl, arith}
use Rattle.std.specs.Fmt.{decimal}
use Rattle.api_documents.specs.ErrorNames.{free_from, is_taken}

module _ (names : List (List ℕ)) (name : List ℕ) (tried all : ℕ) (inside : tried < all) where
  one_less : all - tried ≡ suc (all - (tried + 1))
  one_less = omega arith

  next : tried + 2 + 1 ≡ tried + 1 + 2
  next = omega arith

  pub free_here : is_taken names (name ++ decimal (tried + 2)) ≡ false
      → free_from names name (tried + 2) (all - tried) ≡ tried + 2
  free_here free = rw (one_less, free) refl

  pub free_later : is_taken names (name ++ decimal (tried + 2)) ≡ true
      → free_from names name (tried + 2) (all - tried) ≡ free_from names name (tried + 1 + 2) (all - (tried + 1))
  free_later taken = rw (one_less, taken, next) refl
