-- JSON objects as they are written: the members whose values are there.
use Rattle.std.specs.Prelude.{ℕ, List, [], ◌∷◌, map, Option, Some, None, codes}
use Rattle.schema_values.specs.declared.json_value.Json.{Json, Text, List as ListOf, Object}
use Rattle.schema_values.specs.declared.json_value.Member.{Member}
use Rattle.schema_values.specs.Member.{member}

-- a name, and its value if it has one
abbrev pub Entry : Type 0
Entry = List ℕ × Option Json

-- a member that is left out where it has no value
abbrev pub present : List ℕ → Option Json → List Member → List Member
present name None rest = rest
present name (Some value) rest = member name value ∷ rest

-- the members of the entries that have a value, in order
abbrev pub members_of : List Entry → List Member
members_of [] = []
members_of (entry ∷ rest) = present entry.0 entry.1 (members_of rest)

-- the object of the entries that have a value
abbrev pub object_of : List Entry → Json
object_of entries = Object (members_of entries)

-- a reference alone (OpenAPI 3.0.3, Reference Object)
abbrev pub reference_json : List ℕ → Json
reference_json reference = object_of ((codes "$ref", Some (Text reference)) ∷ [])

-- a pair of a name and a value, as a member
abbrev pub pair_member : List ℕ × Json → Member
pair_member pair = member pair.0 pair.1

-- the members that a map of names is written as
abbrev pub map_members : {X : Type 0} → (X → Json) → List (List ℕ × X) → List Member
map_members json = map (λ pair. member pair.0 (json pair.1))

-- a map as an object, left out where it is empty
abbrev pub unless_empty : List Member → Option Json
unless_empty [] = None
unless_empty (m ∷ ms) = Some (Object (m ∷ ms))

-- some values as a list, left out where there are none
abbrev pub list_unless_empty : List Json → Option Json
list_unless_empty [] = None
list_unless_empty (j ∷ js) = Some (ListOf (j ∷ js))
