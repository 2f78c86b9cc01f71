-- What has names, in the order of its names.
use Rattle.std.specs.Prelude.{ℕ, List, [], ◌∷◌, fold}
use Rattle.std.specs.declared.cmp.Ordering.{Ordering}
use Rattle.std.specs.declared.cmp.Ordering.TheVariants.{Less}
use Rattle.std.specs.Ordering.{nat_cmp}
use Rattle.std.specs.Cmp.Lexicographic.{slice_cmp}
use Rattle.schema_values.specs.declared.schema.Property.{Property, out-Property}

-- before one of a greater name, else later
abbrev pub at_place : {X : Type 0} → Ordering → X → X → List X → List X → List X
at_place Less x first rest later = x ∷ first ∷ rest
at_place _ x first rest later = first ∷ later

-- one more thing, before the first of a greater name
abbrev pub inserted_by : {X : Type 0} → (X → List ℕ) → X → List X → List X
inserted_by name_of x [] = x ∷ []
inserted_by name_of x (first ∷ rest) = at_place (slice_cmp nat_cmp (name_of x) (name_of first)) x first rest (inserted_by name_of x rest)

-- things in the order of their names; those of one name keep their order
abbrev pub sorted_by : {X : Type 0} → (X → List ℕ) → List X → List X
sorted_by name_of xs = fold (λ sorted x. inserted_by name_of x sorted) [] xs

-- the name of a property, and a name as its own
abbrev pub property_name : Property → List ℕ
property_name p = (out-Property p).name

abbrev pub same_name : List ℕ → List ℕ
same_name name = name
