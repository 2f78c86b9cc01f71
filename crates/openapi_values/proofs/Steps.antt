-- The rows of a value, with the smaller values themselves in place of those beside what is made of them.
use Rattle.std.proofs.Common.{◌≡◌, ℕ, zero, suc, Bool, false, ◌&&◌, ◌||◌, if◌then◌else◌, List, [], ◌∷◌, map, Option, Some, None, codes, bytes_eq, refl, sym, ◌∙◌, ap}
use Rattle.std.specs.List.{list_all}
use Rattle.std.specs.Option.{option_map_or}
use Rattle.std.proofs.lemmas.List.Folds.{list_all-map}
use Rattle.std.proofs.lemmas.List.{length-map}
use Rattle.schema_values.specs.declared.json_value.Json.{Json, out-Json}
use Rattle.schema_values.specs.declared.json_value.Json.TheOpen.{Json-F}
use Rattle.schema_values.specs.declared.json_value.Member.{Member}
use Rattle.schema_values.specs.Beside.{Beside, beside_with, member_with, level_with}
use Rattle.schema_values.proofs.CallerLemmas.{made-out}
use Rattle.openapi_values.specs.declared.keywords.Keyword.{Keyword}
use Rattle.openapi_values.specs.declared.keywords.Keyword.TheVariants.{Reference, Nullable, Annotation, OfType, Format, Enum, Minimum, Maximum, ExclusiveMinimum, ExclusiveMaximum, MinLength, MaxLength, Items, MinItems, MaxItems, Properties, Required, AdditionalProperties, MinProperties, MaxProperties, AllOf, AnyOf, OneOf, Not, Other}
use Rattle.openapi_values.specs.Keywords.{keyword_of}
use Rattle.openapi_values.specs.Levels.{Named, Level, as_number, as_text, as_list, as_object, is_null, has_type, has_member}
use Rattle.openapi_values.specs.Lookup.{definition, reference_in, is_set, is_null_form}
use Rattle.openapi_values.specs.Options.{is_some_and, is_none_or}
use Rattle.openapi_values.specs.Rows.{is_enough, is_not_too_many, names_stand, row, members_hold, in_subset}
use Rattle.openapi_values.specs.JsonAdmits.{object_admits, schema_admits, Admission, admitted_beside, admits_at, admits_within}
use Rattle.openapi_values.specs.Smaller.{smaller_admits}

pub has_changed : {X : Type 0} (f : Json → X) (name : List ℕ) (ms : List Member) → has_member name (map (member_with f) ms) ≡ has_member name ms
has_changed f name [] = refl
has_changed f name (m ∷ ms) = ap (λ b. bytes_eq m.name name || b) (has_changed f name ms)

some_same : {X : Type 0} (o : Option X) (p q : X → Bool) → ((x : X) → p x ≡ q x) → is_some_and o p ≡ is_some_and o q
some_same None p q h = refl
some_same (Some x) p q h = h x

same_of : {X : Type 0} (o q : Option X) (p : X → Bool) → o ≡ q → is_none_or o p ≡ is_none_or q p
same_of o q p e = ap (λ o. is_none_or o p) e

pub all_same : {X : Type 0} (p q : X → Bool) → ((x : X) → p x ≡ q x) → (xs : List X) → list_all p xs ≡ list_all q xs
all_same p q h [] = refl
all_same p q h (x ∷ xs) = ap (λ b. b && list_all p xs) (h x) ∙ ap (λ b. q x && b) (all_same p q h xs)

module _ {X : Type 0} (f : Json → X) where
  same_null : (x : Level Json) → is_null (level_with f x) ≡ is_null x
  same_null Json-F.Null = refl
  same_null (Json-F.Bool b) = refl
  same_null (Json-F.Int n) = refl
  same_null (Json-F.Text t) = refl
  same_null (Json-F.List xs) = refl
  same_null (Json-F.Object ms) = refl

  same_type : (name : List ℕ) (x : Level Json) → has_type name (level_with f x) ≡ has_type name x
  same_type name Json-F.Null = refl
  same_type name (Json-F.Bool b) = refl
  same_type name (Json-F.Int n) = refl
  same_type name (Json-F.Text t) = refl
  same_type name (Json-F.List xs) = refl
  same_type name (Json-F.Object ms) = refl

  same_number : (x : Level Json) → as_number (level_with f x) ≡ as_number x
  same_number Json-F.Null = refl
  same_number (Json-F.Bool b) = refl
  same_number (Json-F.Int n) = refl
  same_number (Json-F.Text t) = refl
  same_number (Json-F.List xs) = refl
  same_number (Json-F.Object ms) = refl

  same_text : (x : Level Json) → as_text (level_with f x) ≡ as_text x
  same_text Json-F.Null = refl
  same_text (Json-F.Bool b) = refl
  same_text (Json-F.Int n) = refl
  same_text (Json-F.Text t) = refl
  same_text (Json-F.List xs) = refl
  same_text (Json-F.Object ms) = refl

  same_list : (p : List (Beside X) → Bool) (q : List Json → Bool) → ((xs : List Json) → p (map (beside_with f) xs) ≡ q xs) → (x : Level Json) → is_none_or (as_list (level_with f x)) p ≡ is_none_or (as_list x) q
  same_list p q h Json-F.Null = refl
  same_list p q h (Json-F.Bool b) = refl
  same_list p q h (Json-F.Int n) = refl
  same_list p q h (Json-F.Text t) = refl
  same_list p q h (Json-F.List xs) = h xs
  same_list p q h (Json-F.Object ms) = refl

  same_object : (p : List (Named (Beside X)) → Bool) (q : List Member → Bool) → ((ms : List Member) → p (map (member_with f) ms) ≡ q ms) → (x : Level Json) → is_none_or (as_object (level_with f x)) p ≡ is_none_or (as_object x) q
  same_object p q h Json-F.Null = refl
  same_object p q h (Json-F.Bool b) = refl
  same_object p q h (Json-F.Int n) = refl
  same_object p q h (Json-F.Text t) = refl
  same_object p q h (Json-F.List xs) = refl
  same_object p q h (Json-F.Object ms) = h ms

  same_names : (s : Json) (ms : List Member) → names_stand s (map (member_with f) ms) ≡ names_stand s ms
  same_names s ms = some_same (as_list (out-Json s)) _ _ (all_same _ _ (λ name. some_same (as_text (out-Json name)) _ _ (λ t. has_changed f t ms)))

module _ {X : Type 0} (f : Json → X) (smaller : Beside X → Json → Bool) (next : Json → Bool) (json : Json) (schema : List Member) where
  same_row : (x : Level Json) (k : Keyword) (s : Json) → row smaller next json (level_with f x) schema k s ≡ row (λ y. smaller (beside_with f y)) next json x schema k s
  same_row x Reference s = refl
  same_row x Nullable s = refl
  same_row x Annotation s = refl
  same_row x OfType s = some_same (as_text (out-Json s)) _ _ (λ name. same_type f name x)
  same_row x Format s = same_of _ _ _ (same_number f x)
  same_row x Enum s = refl
  same_row x Minimum s = same_of _ _ _ (same_number f x)
  same_row x Maximum s = same_of _ _ _ (same_number f x)
  same_row x ExclusiveMinimum s = refl
  same_row x ExclusiveMaximum s = refl
  same_row x MinLength s = same_of _ _ _ (same_text f x)
  same_row x MaxLength s = same_of _ _ _ (same_text f x)
  same_row x Items s = same_list f _ _ (list_all-map _ (beside_with f)) x
  same_row x MinItems s = same_list f _ _ (λ xs. ap (λ n. is_enough n s) (length-map xs (beside_with f))) x
  same_row x MaxItems s = same_list f _ _ (λ xs. ap (λ n. is_not_too_many n s) (length-map xs (beside_with f))) x
  same_row x Properties s = same_object f _ _ (λ ms. some_same (as_object (out-Json s)) _ _ (λ ps. list_all-map _ (member_with f) ms)) x
  same_row x Required s = same_object f _ _ (same_names f s) x
  same_row x AdditionalProperties s = same_object f _ _ (list_all-map _ (member_with f)) x
  same_row x MinProperties s = same_object f _ _ (λ ms. ap (λ n. is_enough n s) (length-map ms (member_with f))) x
  same_row x MaxProperties s = same_object f _ _ (λ ms. ap (λ n. is_not_too_many n s) (length-map ms (member_with f))) x
  same_row x AllOf s = refl
  same_row x AnyOf s = refl
  same_row x OneOf s = refl
  same_row x Not s = refl
  same_row x Other s = refl

  same_object_admits : (x : Level Json) → object_admits smaller next json (level_with f x) schema ≡ object_admits (λ y. smaller (beside_with f y)) next json x schema
  same_object_admits x =
      ap (λ b. in_subset schema && (is_set (codes "nullable") schema && b || (if is_null_form schema then b else members_hold smaller next json (level_with f x) schema))) (same_null f x)
      ∙ ap (λ b. in_subset schema && (is_set (codes "nullable") schema && is_null x || (if is_null_form schema then is_null x else b))) (all_same _ _ (λ m. same_row x (keyword_of m.name) m.value) schema)

same_schema : {X : Type 0} (doc : Json) (f : Json → X) (smaller : Beside X → Json → Bool) (next : Json → Bool) (json : Json) (x : Level Json) (s : Json)
    → schema_admits doc smaller next json (level_with f x) s ≡ schema_admits doc (λ y. smaller (beside_with f y)) next json x s
same_schema doc f smaller next json x s =
    some_same (as_object (out-Json s)) _ _ (λ schema. ap (λ b. option_map_or (λ name. is_some_and (definition doc name) next) (reference_in schema) b) (same_object_admits f smaller next json schema x))

within_is : (doc : Json) (room : ℕ) (j : Json) → admits_within doc room j ≡ admits_at doc room j (level_with (admits_within doc room) (out-Json j))
unfolding admits_within
within_is doc room j = made-out (admits_at doc room) j

pub admits-zero : (doc : Json) (room : ℕ) (j s : Json) → admits_within doc room j zero s ≡ false
unfolding admits_at
admits-zero doc room j s = ap (λ (a : Admission). a zero s) (within_is doc room j)

-- one step of a schema
pub admits-suc : (doc : Json) (room : ℕ) (j : Json) (n : ℕ) (s : Json)
    → admits_within doc room j (suc n) s ≡ schema_admits doc (smaller_admits doc room) (admits_within doc room j n) j (out-Json j) s
unfolding admits_at
admits-suc doc room j n s =
    ap (λ (a : Admission). a (suc n) s) (within_is doc room j)
    ∙ ap (λ (next : Json → Bool). schema_admits doc (admitted_beside room) next j (level_with (admits_within doc room) (out-Json j)) s) (ap (λ (a : Admission). a n) (sym (within_is doc room j)))
    ∙ same_schema doc (admits_within doc room) (admitted_beside room) (admits_within doc room j n) j (out-Json j) s
