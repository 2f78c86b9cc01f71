-- One level of a JSON value (RFC 8259, section 3), whatever stands for the smaller values.
use Rattle.std.specs.Prelude.{ℕ, ℤ, Bool, true, false, List, Option, Some, None, bytes_eq, codes}
use Rattle.std.specs.List.{list_any}
use Rattle.schema_values.specs.declared.json_value.Json.TheOpen.{Json-F, Member-F}

-- a member with such a value
abbrev pub Named : Type 0 → Type 0
Named X = Member-F X (Unit {0})

-- one level: null, a truth value, a number, a text, a list or an object of such values
abbrev pub Level : Type 0 → Type 0
Level X = Json-F X (Named X)

-- the number, text, items or members that a level is, where it is of that kind
abbrev pub as_number : {X : Type 0} → Level X → Option ℤ
as_number (Json-F.Int n) = Some n
as_number _ = None

abbrev pub as_text : {X : Type 0} → Level X → Option (List ℕ)
as_text (Json-F.Text t) = Some t
as_text _ = None

abbrev pub as_list : {X : Type 0} → Level X → Option (List X)
as_list (Json-F.List xs) = Some xs
as_list _ = None

abbrev pub as_object : {X : Type 0} → Level X → Option (List (Named X))
as_object (Json-F.Object ms) = Some ms
as_object _ = None

-- whether a level is null
abbrev pub is_null : {X : Type 0} → Level X → Bool
is_null Json-F.Null = true
is_null _ = false

-- whether a level is true
abbrev pub is_true : {X : Type 0} → Level X → Bool
is_true (Json-F.Bool b) = b
is_true _ = false

-- whether a value is of the type of a name; null is of none
abbrev pub has_type : {X : Type 0} → List ℕ → Level X → Bool
has_type name Json-F.Null = false
has_type name (Json-F.Bool b) = bytes_eq name (codes "boolean")
has_type name (Json-F.Int n) = bytes_eq name (codes "integer")
has_type name (Json-F.Text t) = bytes_eq name (codes "string")
has_type name (Json-F.List xs) = bytes_eq name (codes "array")
has_type name (Json-F.Object ms) = bytes_eq name (codes "object")

-- whether a member of a name stands
abbrev pub has_member : {X : Type 0} → List ℕ → List (Named X) → Bool
has_member name ms = list_any (λ m. bytes_eq m.name name) ms
