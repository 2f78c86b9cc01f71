-- What is wrong with a table or a descriptor, case by case.
use Rattle.std.specs.Prelude.{◌≡◌, ◌≢◌, ℕ, ℤ, Bool, true, false, ◌&&◌, ◌||◌, nat_le, int_le, ◌==◌, IsTrue, not, is_some, List, [], ◌∷◌, length, map, Option, Some, None, Contains}
use Rattle.std.specs.List.{AllByRecursion, list_any}
use Rattle.schema_values.specs.Sound.{AreDistinct}
use Rattle.descriptors.specs.declared.desc.Desc.{Desc, out-Desc}
use Rattle.descriptors.specs.declared.desc.Desc.TheOpen.{Desc-F}
use Rattle.descriptors.specs.declared.desc.Field.{Field}
use Rattle.descriptors.specs.declared.desc.IntKind.{IntKind}
use Rattle.descriptors.specs.declared.desc.TaggedVariant.{TaggedVariant}
use Rattle.descriptors.specs.declared.desc.Variant.{Variant}
use Rattle.descriptors.specs.declared.desc.Presence.TheVariants.{Nullable, Skipped, Default}
use Rattle.descriptors.specs.declared.table.Definition.{Definition}
use Rattle.descriptors.specs.declared.tree.Tree.{Tree}
use Rattle.descriptors.specs.Definitions.{definition, definition_name, field_name, listed_name, tagged_fields, tagged_name, variant_name}
use Rattle.typed_values.specs.Bounds.{least_of, greatest_of}
use Rattle.typed_values.specs.Fits.{Fits}
use Rattle.typed_values.specs.Guarded.{IsGuarded}
use Rattle.typed_values.specs.Parts.{StandsIn}
use Rattle.typed_values.specs.Levels.{DescLevel}

-- the names of a tagged variant's fields
abbrev pub names_of_fields : TaggedVariant → List (List ℕ)
names_of_fields v = map field_name (tagged_fields v)

-- the lists of names in a descriptor: of a struct's fields, of an enumeration, of variants and of each tagged variant's fields
abbrev pub lists_of_names : DescLevel → List (List (List ℕ))
lists_of_names (Desc-F.Struct fs deny) = map field_name fs ∷ []
lists_of_names (Desc-F.Enumeration ns) = map listed_name ns ∷ []
lists_of_names (Desc-F.External vs) = map variant_name vs ∷ []
lists_of_names (Desc-F.Tagged tag vs) = map tagged_name vs ∷ map names_of_fields vs
lists_of_names _ = []

-- in one of these lists two names are one
abbrev pub HasDoubledName : Desc → Type 0
HasDoubledName d = AllByRecursion AreDistinct (lists_of_names (out-Desc d)) → ⊥

-- letters, digits, `.`, `-` and `_`
abbrev pub is_name_character : ℕ → Bool
is_name_character c = ((nat_le 97 c && nat_le c 122) || (nat_le 65 c && nat_le c 90)) || ((nat_le 48 c && nat_le c 57) || ((c == 46) || ((c == 45) || (c == 95))))

-- one or more of these characters (OpenAPI 3.0.3, Components Object)
abbrev pub IsName : List ℕ → Type 0
IsName name = (name ≢ []) × AllByRecursion (λ c. IsTrue (is_name_character c)) name

-- a reference that has no definition
abbrev pub IsDangling : List Definition → Desc → Type 0
IsDangling table d = (name : List ℕ) × (out-Desc d ≡ Desc-F.Ref name) × (definition table name ≡ None)

-- whether a variant has a payload
abbrev pub has_payload : Variant → Bool
has_payload v = is_some v.payload

-- a choice without alternatives, an enumeration without names or variants, or an external one without any payload
abbrev pub is_empty_choice : DescLevel → Bool
is_empty_choice (Desc-F.Untagged []) = true
is_empty_choice (Desc-F.Enumeration []) = true
is_empty_choice (Desc-F.External vs) = not (list_any has_payload vs)
is_empty_choice (Desc-F.Tagged tag []) = true
is_empty_choice _ = false

-- the descriptor is such
abbrev pub IsEmptyChoice : Desc → Type 0
IsEmptyChoice d = is_empty_choice (out-Desc d) ≡ true

-- null denotes something: any value, null itself, an option, a reference to what takes null, or an alternative that does
pub data TakesNull (table : List Definition) : Desc → Type 0 where
  any_value : {d : Desc} → out-Desc d ≡ Desc-F.Any → TakesNull table d
  null_itself : {d : Desc} → out-Desc d ≡ Desc-F.Null → TakesNull table d
  an_option : {d : Desc} (x : Desc) → out-Desc d ≡ Desc-F.Option x → TakesNull table d
  a_reference : {d : Desc} (name : List ℕ) (y : Desc) → out-Desc d ≡ Desc-F.Ref name → definition table name ≡ Some y → TakesNull table y → TakesNull table d
  an_alternative : {d : Desc} (ds : List Desc) (x : Desc) → out-Desc d ≡ Desc-F.Untagged ds → Contains ds x → TakesNull table x → TakesNull table d

-- an option over what takes null itself
abbrev pub IsNullOfNull : List Definition → Desc → Type 0
IsNullOfNull table d = (x : Desc) × (out-Desc d ≡ Desc-F.Option x) × TakesNull table x

-- the least length is not above the greatest, where both are given
abbrev pub is_length_order : Option ℕ → Option ℕ → Bool
is_length_order (Some min) (Some max) = nat_le min max
is_length_order _ _ = true

-- the least number is not above the greatest, where both are given
abbrev pub is_number_order : Option ℤ → Option ℤ → Bool
is_number_order (Some min) (Some max) = int_le min max
is_number_order _ _ = true

-- a bound is a number of the kind, where it is given
abbrev pub is_bound_of : IntKind → Option ℤ → Bool
is_bound_of kind None = true
is_bound_of kind (Some bound) = int_le (least_of kind) bound && int_le bound (greatest_of kind)

-- bounds are in order and of their kind, and names, variants or alternatives no more than 2^32
abbrev pub are_bounds_right : DescLevel → Bool
are_bounds_right (Desc-F.Int kind min max) = is_number_order min max && (is_bound_of kind min && is_bound_of kind max)
are_bounds_right (Desc-F.Text min max format) = is_length_order min max
are_bounds_right (Desc-F.List x min max) = is_length_order min max
are_bounds_right (Desc-F.Enumeration ns) = nat_le (length ns) 4294967296
are_bounds_right (Desc-F.External vs) = nat_le (length vs) 4294967296
are_bounds_right (Desc-F.Tagged tag vs) = nat_le (length vs) 4294967296
are_bounds_right (Desc-F.Untagged ds) = nat_le (length ds) 4294967296
are_bounds_right _ = true

-- a least bound above the greatest, a bound outside its kind, or more than 2^32 names, variants or alternatives
abbrev pub HasBadRange : Desc → Type 0
HasBadRange d = are_bounds_right (out-Desc d) ≡ false

-- a field of a tagged variant is named as the tag
abbrev pub HasTagClash : Desc → Type 0
HasTagClash d = (tag : List ℕ) × (vs : List TaggedVariant) × (v : TaggedVariant) × (f : Field) × (out-Desc d ≡ Desc-F.Tagged tag vs) × Contains vs v × Contains (tagged_fields v) f × (f.name ≡ tag)

-- a field of a struct, or of a tagged variant
pub data IsFieldOf (d : Desc) (f : Field) : Type 0 where
  of_struct : (fs : List Field) (deny : Bool) → out-Desc d ≡ Desc-F.Struct fs deny → Contains fs f → IsFieldOf d f
  of_variant : (tag : List ℕ) (vs : List TaggedVariant) (v : TaggedVariant) → out-Desc d ≡ Desc-F.Tagged tag vs → Contains vs v → Contains (tagged_fields v) f → IsFieldOf d f

-- the descriptor is an option itself, and no reference to one
abbrev pub IsOption : Desc → Type 0
IsOption d = (x : Desc) × (out-Desc d ≡ Desc-F.Option x)

-- a nullable field that is no option, one that may be skipped and takes null, or a default that does not fit
pub data IsBadField (table : List Definition) (f : Field) : Type 0 where
  no_option : f.presence ≡ Nullable → (IsOption f.desc → ⊥) → IsBadField table f
  null_twice : f.presence ≡ Skipped → TakesNull table f.desc → IsBadField table f
  default_misfits : (tree : Tree) → f.presence ≡ Default tree → (Fits table f.desc tree → ⊥) → IsBadField table f

-- a field of a struct or of a tagged variant is such
abbrev pub HasBadPresence : List Definition → Desc → Type 0
HasBadPresence table d = (f : Field) × IsFieldOf d f × IsBadField table f

-- no case applies to a descriptor
pub record IsPlainlyRight (table : List Definition) (d : Desc) : Type 0 where
  pub names_distinct : HasDoubledName d → ⊥
  pub defined : IsDangling table d → ⊥
  pub some_alternative : IsEmptyChoice d → ⊥
  pub null_once : IsNullOfNull table d → ⊥
  pub tags : HasTagClash d → ⊥
  pub ranges : HasBadRange d → ⊥
  pub presences : HasBadPresence table d → ⊥

-- no case applies to any descriptor that stands in one
abbrev pub DescPasses : List Definition → Desc → Type 0
DescPasses table desc = (d : Desc) → StandsIn desc d → IsPlainlyRight table d

-- no case applies to a table, whose definitions have distinct names
pub record TablePasses (table : List Definition) : Type 0 where
  pub once : AreDistinct (map definition_name table)
  pub named : (e : Definition) → Contains table e → IsName e.name
  pub guarded : IsGuarded table
  pub each : (e : Definition) → Contains table e → DescPasses table e.desc
