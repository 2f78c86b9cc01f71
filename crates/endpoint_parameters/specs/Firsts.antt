-- The first of several things, in their order.
use Rattle.std.specs.Prelude.{◌≡◌, ◌⊎◌, ◌<◌, ◌≤◌, ℕ, List, ◌∷◌, ◌++◌, All, Some, Contains, slice_get}

-- something holds of none of several things
abbrev pub NoneOf : {A : Type 0} → (A → Type 0) → List A → Type 0
NoneOf Holds things = All (λ thing. ¬ Holds thing) things

-- something holds of a thing that stands among others, and of none before it
pub record IsFirstOf {A : Type 0} (Holds : A → Type 0) (things : List A) (thing : A) : Type 0 where
  pub earlier : List A
  pub later : List A
  pub in_order : things ≡ earlier ++ thing ∷ later
  pub none_earlier : NoneOf Holds earlier
  pub holds : Holds thing

-- something holds of the thing at a place
pub record IsSuchAt {A : Type 0} (Holds : A → Type 0) (things : List A) (place : ℕ) : Type 0 where
  pub thing : A
  pub found : slice_get things place ≡ Some thing
  pub holds : Holds thing

-- the first of some places before an end at which something holds of a thing, or the end, where it does at none of them
pub record IsFirstPlace {A : Type 0} (Holds : A → Type 0) (things : List A) (places : List ℕ) (end first : ℕ) : Type 0 where
  pub within : first ≤ end
  pub among : (first ≡ end) ⊎ Contains places first
  pub is_such : (first ≡ end) ⊎ IsSuchAt Holds things first
  pub none_earlier : All (λ place. place < first → ¬ IsSuchAt Holds things place) places

-- something holds of a thing at one of some places
abbrev pub IsSuchAtOneOf : {A : Type 0} → (A → Type 0) → List A → List ℕ → Type 0
IsSuchAtOneOf Holds things places = (place : ℕ) × Contains places place × IsSuchAt Holds things place
