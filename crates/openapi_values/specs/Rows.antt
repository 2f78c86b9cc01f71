-- What each member of a schema asks of a value (OpenAPI 3.0.3, Schema Object).
use Rattle.std.specs.Prelude.{ℕ, ◌^◌, ◌-◌, ◌==◌, ℤ, pos, negsuc, Bool, true, false, ◌&&◌, ◌||◌, not, int_le, int_lt, List, if◌then◌else◌, bytes_eq, codes, length, count_by}
use Rattle.std.specs.List.{list_all, list_any}
use Rattle.schema_values.specs.declared.json_value.Json.{Json, out-Json}
use Rattle.schema_values.specs.declared.json_value.Member.{Member}
use Rattle.schema_values.specs.Get.{first_named}
use Rattle.schema_values.specs.Same.{same_json}
use Rattle.openapi_values.specs.declared.keywords.Keyword.{Keyword}
use Rattle.openapi_values.specs.declared.keywords.Keyword.TheVariants.{Reference, Nullable, Annotation, OfType, Format, Enum, Minimum, Maximum, ExclusiveMinimum, ExclusiveMaximum, MinLength, MaxLength, Items, MinItems, MaxItems, Properties, Required, AdditionalProperties, MinProperties, MaxProperties, AllOf, AnyOf, OneOf, Not, Other}
use Rattle.openapi_values.specs.Keywords.{keyword_of}
use Rattle.openapi_values.specs.Levels.{Named, Level, as_number, as_text, as_list, as_object, is_true, has_type, has_member}
use Rattle.openapi_values.specs.Lookup.{is_set, is_integer}
use Rattle.openapi_values.specs.Options.{is_some_and, is_none_or}

-- whether a number is one of these two or lies between them
abbrev pub is_between : ℤ → ℤ → ℤ → Bool
is_between low high n = int_le low n && int_le n high

-- the whole numbers of a format; any number is of another format
unfoldable pub in_format : List ℕ → ℤ → Bool
in_format name n =
    if bytes_eq name (codes "int8") then is_between (negsuc (2 ^ 7 - 1)) (pos (2 ^ 7 - 1)) n else
    (if bytes_eq name (codes "int16") then is_between (negsuc (2 ^ 15 - 1)) (pos (2 ^ 15 - 1)) n else
    (if bytes_eq name (codes "int32") then is_between (negsuc (2 ^ 31 - 1)) (pos (2 ^ 31 - 1)) n else
    (if bytes_eq name (codes "int64") then is_between (negsuc (2 ^ 63 - 1)) (pos (2 ^ 63 - 1)) n else
    (if bytes_eq name (codes "uint8") then is_between (pos 0) (pos (2 ^ 8 - 1)) n else
    (if bytes_eq name (codes "uint16") then is_between (pos 0) (pos (2 ^ 16 - 1)) n else
    (if bytes_eq name (codes "uint32") then is_between (pos 0) (pos (2 ^ 32 - 1)) n else
    (if bytes_eq name (codes "uint64") then is_between (pos 0) (pos (2 ^ 64 - 1)) n else
    true)))))))

-- a number not above another, or below it where the two may not be equal
abbrev pub is_under : Bool → ℤ → ℤ → Bool
is_under strictly low high = if strictly then int_lt low high else int_le low high

-- a number is not below the least bound that a member gives
abbrev pub is_least : Bool → ℤ → Json → Bool
is_least strictly n s = is_some_and (as_number (out-Json s)) (λ least. is_under strictly least n)

-- a number is not above the greatest bound that a member gives
abbrev pub is_greatest : Bool → ℤ → Json → Bool
is_greatest strictly n s = is_some_and (as_number (out-Json s)) (λ greatest. is_under strictly n greatest)

-- a length or a count is not below the least that a member gives
abbrev pub is_enough : ℕ → Json → Bool
is_enough count s = is_least false (pos count) s

-- a length or a count is not above the greatest that a member gives
abbrev pub is_not_too_many : ℕ → Json → Bool
is_not_too_many count s = is_greatest false (pos count) s

-- a member that stands in `properties`
abbrev pub is_property : List Member → List ℕ → Bool
is_property schema name = is_some_and (first_named (codes "properties") schema) (λ s. is_some_and (as_object (out-Json s)) (has_member name))

-- each name of a list is that of a member
abbrev pub names_stand : {X : Type 0} → Json → List (Named X) → Bool
names_stand s ms = is_some_and (as_list (out-Json s)) (list_all (λ name. is_some_and (as_text (out-Json name)) (λ t. has_member t ms)))

-- a member's value is admitted by the schema that its name has among the properties
abbrev pub property_admitted : {X : Type 0} → (X → Json → Bool) → List Member → Named X → Bool
property_admitted smaller properties m = is_none_or (first_named m.name properties) (smaller m.value)

-- each member that is a property is admitted by its schema
abbrev pub properties_admitted : {X : Type 0} → (X → Json → Bool) → Json → List (Named X) → Bool
properties_admitted smaller s ms = is_some_and (as_object (out-Json s)) (λ properties. list_all (property_admitted smaller properties) ms)

-- a member that is no property is admitted by `additionalProperties`: true, or a schema
abbrev pub other_admitted : {X : Type 0} → (X → Json → Bool) → List Member → Json → Named X → Bool
other_admitted smaller schema s m = is_property schema m.name || (is_true (out-Json s) || smaller m.value s)

-- each schema of the list admits
abbrev pub every_admits : (Json → Bool) → Json → Bool
every_admits next s = is_some_and (as_list (out-Json s)) (list_all next)

-- at least one schema of the list admits
abbrev pub some_admits : (Json → Bool) → Json → Bool
some_admits next s = is_some_and (as_list (out-Json s)) (list_any next)

-- exactly one schema of the list admits
abbrev pub one_admits : (Json → Bool) → Json → Bool
one_admits next s = is_some_and (as_list (out-Json s)) (λ schemas. count_by next schemas == 1)

-- a value is one of those that a list holds
abbrev pub is_listed : Json → Json → Bool
is_listed json s = is_some_and (as_list (out-Json s)) (list_any (same_json json))

-- One row for each member of a schema: whether its value `s` holds of the value `json`, of which `j` is one level.
-- `smaller` says whether a smaller value is admitted by a schema, and `next` whether `json` is with one step less.
module _ {X : Type 0} (smaller : X → Json → Bool) (next : Json → Bool) (json : Json) (j : Level X) (schema : List Member) where
  -- whether a member of a keyword, whose value is `s`, holds
  abbrev pub row : Keyword → Json → Bool
  row OfType s = is_some_and (as_text (out-Json s)) (λ name. has_type name j)
  row Format s = is_none_or (as_number j) (λ n. not (is_integer schema) || is_some_and (as_text (out-Json s)) (λ name. in_format name n))
  row Enum s = is_listed json s
  row Minimum s = is_none_or (as_number j) (λ n. is_least (is_set (codes "exclusiveMinimum") schema) n s)
  row Maximum s = is_none_or (as_number j) (λ n. is_greatest (is_set (codes "exclusiveMaximum") schema) n s)
  row MinLength s = is_none_or (as_text j) (λ t. is_enough (length t) s)
  row MaxLength s = is_none_or (as_text j) (λ t. is_not_too_many (length t) s)
  row Items s = is_none_or (as_list j) (list_all (λ x. smaller x s))
  row MinItems s = is_none_or (as_list j) (λ xs. is_enough (length xs) s)
  row MaxItems s = is_none_or (as_list j) (λ xs. is_not_too_many (length xs) s)
  row Properties s = is_none_or (as_object j) (properties_admitted smaller s)
  row Required s = is_none_or (as_object j) (names_stand s)
  row AdditionalProperties s = is_none_or (as_object j) (list_all (other_admitted smaller schema s))
  row MinProperties s = is_none_or (as_object j) (λ ms. is_enough (length ms) s)
  row MaxProperties s = is_none_or (as_object j) (λ ms. is_not_too_many (length ms) s)
  row AllOf s = every_admits next s
  row AnyOf s = some_admits next s
  row OneOf s = one_admits next s
  row Not s = false
  -- they have their effect at `minimum`, at `maximum` and beside null, or have none
  row ExclusiveMinimum s = true
  row ExclusiveMaximum s = true
  row Nullable s = true
  row Annotation s = true
  -- a reference that does not stand alone, and any other member
  row Reference s = false
  row Other s = false

  -- each member that stands holds
  abbrev pub members_hold : Bool
  members_hold = list_all (λ m. row (keyword_of m.name) m.value) schema

-- a member of the subset that this project reads: `allOf` has one schema, and `not` the empty one
abbrev pub is_read : Keyword → Json → Bool
is_read Reference s = false
is_read AllOf s = is_some_and (as_list (out-Json s)) (λ schemas. length schemas == 1)
is_read Not s = is_some_and (as_object (out-Json s)) (λ ms. length ms == 0)
is_read Other s = false
is_read _ s = true

-- each member is of that subset
abbrev pub in_subset : List Member → Bool
in_subset schema = list_all (λ m. is_read (keyword_of m.name) m.value) schema
