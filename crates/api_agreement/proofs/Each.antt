-- What holds of each thing of a list, and of what is made of each.
use Rattle.std.proofs.Common.{◌≡◌, Bool, List, [], ◌∷◌, Option, Some, None, IfSome, IsTrue, refl, sym}
use Rattle.std.proofs.Common.{◌∙◌, subst}
use Rattle.std.proofs.lemmas.Bool.{and_from, and_parts}
use Rattle.std.proofs.lemmas.List.Folds.{list_all-append}
use Rattle.std.specs.List.{AllByRecursion, flat_map, list_all}
use Rattle.std.specs.Option.{option_or}
use Rattle.std.specs.Prelude.{Contains}
use Rattle.schema_values.proofs.CallerLemmas.{contains_first, contains_later}

-- what follows of each
pub each_of : {X : Type 0} (P Q : X → Type 0) (xs : List X) → ((x : X) → Contains xs x → P x → Q x)
    → AllByRecursion P xs → AllByRecursion Q xs
each_of P Q [] follows h = tt
each_of P Q (x ∷ xs) follows h =
    (follows x (contains_first x xs) h.0, each_of P Q xs (λ y c. follows y (contains_later x xs y c)) h.1)

-- ---- a test of all that is made of the things of a list

module _ {X Y : Type 0} (f : X → List Y) (p : Y → Bool) where
  abbrev AllMade : X → Type 0
  AllMade x = IsTrue (list_all p (f x))

  pub joined_to : (xs : List X) → IsTrue (list_all p (flat_map f xs)) → AllByRecursion AllMade xs
  joined_to [] h = tt
  joined_to (x ∷ xs) h = let both =
      and_parts _ _ (sym (list_all-append p (f x) (flat_map f xs)) ∙ h) in (both.0, joined_to xs both.1)

  pub joined_from : (xs : List X) → AllByRecursion AllMade xs → IsTrue (list_all p (flat_map f xs))
  joined_from [] h = refl
  joined_from (x ∷ xs) h = list_all-append p (f x) (flat_map f xs) ∙ and_from _ _ h.0 (joined_from xs h.1)

-- ---- the first of two

module _ {Y : Type 0} (P : Y → Type 0) where
  -- what holds of both holds of the first that is there
  pub one_of : (o other : Option Y) → IfSome o P → IfSome other P → IfSome (option_or o other) P
  one_of None other h k = k
  one_of (Some y) other h k = h

  -- what holds of the first that is there holds of the front one
  pub front_of : (o other : Option Y) → IfSome (option_or o other) P → IfSome o P
  front_of None other h = tt
  front_of (Some y) other h = h

  -- and of the one behind, where they are not both there
  pub behind_of : (o other : Option Y) → ((y : Y) → o ≡ Some y → other ≡ None) → IfSome (option_or o other) P
      → IfSome other P
  behind_of None other apart h = h
  behind_of (Some y) other apart h = subst (λ (p : Option Y). IfSome p P) (sym (apart y refl)) tt
