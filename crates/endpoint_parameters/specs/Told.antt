-- How what was tried is told: by a message, or by none.
use Rattle.std.specs.Prelude.{◌≡◌, ℕ, List, ◌++◌, Option, MatchOption, codes}
use Rattle.endpoint_parameters.specs.Firsts.{IsFirstOf}
use Rattle.endpoint_parameters.specs.Parameters.{Parameter, name_of}

-- what was tried is told by a message, or by none where it is not so
abbrev pub IsTried : (List ℕ → Type 0) → Option (List ℕ) → Type 0
IsTried Tells told = MatchOption told ((message : List ℕ) → ¬ Tells message) Tells

-- a fact holds, and is told by a text
abbrev pub Says : Type 0 → List ℕ → List ℕ → Type 0
Says Fact text message = Fact × (message ≡ text)

-- the first parameter of which something holds is told by a text of its name
abbrev pub SaysFirst : List Parameter → (Parameter → Type 0) → (List ℕ → List ℕ) → List ℕ → Type 0
SaysFirst ps Holds text message = (p : Parameter) × IsFirstOf Holds ps p × (message ≡ text (name_of p))

-- a name in quotation marks between two texts
abbrev pub quoted : List ℕ → List ℕ → List ℕ → List ℕ
quoted before after name = before ++ codes "'" ++ name ++ codes "'" ++ after
