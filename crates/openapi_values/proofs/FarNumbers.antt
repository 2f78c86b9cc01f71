-- Numbers that stand alike to all those of 64 bits are admitted alike by a sound schema of a sound document.
use Rattle.std.proofs.Common.{◌≡◌, ℕ, zero, suc, ◌+◌, ℤ, pos, negsuc, ◌^◌, ◌-◌, Bool, true, false, ◌&&◌, ◌||◌, not, cond, int_le, int_lt, if◌then◌else◌, List, [], ◌∷◌, Option, Some, None, bytes_eq, codes, count_by, ◌==◌, refl, sym, ◌∙◌, ap, arith}
use Rattle.std.specs.List.{AllByRecursion, list_all, list_any}
use Rattle.std.proofs.lemmas.List.Sums.{sum_by-cons}
use Rattle.std.specs.Option.{option_map_or}
use Rattle.std.specs.Ordering.{int_eq}
use Rattle.schema_values.specs.declared.json_value.Json.{Json, Null, Bool as Truth, Int, Text, List', Object', out-Json}
use Rattle.schema_values.specs.declared.json_value.Json.TheOpen.{Json-F}
use Rattle.schema_values.specs.declared.json_value.Json.TheVariants.{outs-Int}
use Rattle.schema_values.specs.declared.json_value.Member.{Member}
use Rattle.schema_values.specs.Same.{same_json}
use Rattle.schema_values.specs.Sound.{IsSound, IsWhole}
use Rattle.schema_values.specs.SoundMembers.{HasSoundValue}
use Rattle.openapi_values.specs.declared.keywords.Keyword.{Keyword}
use Rattle.openapi_values.specs.declared.keywords.Keyword.TheVariants.{Reference, Nullable, Annotation, OfType, Format, Enum, Minimum, Maximum, ExclusiveMinimum, ExclusiveMaximum, MinLength, MaxLength, Items, MinItems, MaxItems, Properties, Required, AdditionalProperties, MinProperties, MaxProperties, AllOf, AnyOf, OneOf, Not, Other}
use Rattle.openapi_values.specs.JsonAdmits.{schema_admits, object_admits, admits_within}
use Rattle.openapi_values.specs.Keywords.{keyword_of}
use Rattle.openapi_values.specs.Levels.{Level, as_number, as_text, as_list, as_object}
use Rattle.openapi_values.specs.Lookup.{definition, reference_in, is_set, is_integer, is_null_form}
use Rattle.openapi_values.specs.Options.{is_some_and}
use Rattle.openapi_values.specs.Rows.{is_between, in_format, is_under, row, in_subset}
use Rattle.openapi_values.specs.Smaller.{smaller_admits}
use Rattle.openapi_values.proofs.SoundLevels.{number_whole, listed_sound, values_sound, definition_sound}
use Rattle.openapi_values.proofs.Steps.{admits-zero, admits-suc}

-- the two numbers stand alike to each number of 64 bits
pub record StandAlike (n m : ℤ) : Type 0 where
  pub above : (k : ℤ) → IsWhole k → int_le k n ≡ int_le k m
  pub below : (k : ℤ) → IsWhole k → int_le n k ≡ int_le m k
  pub over : (k : ℤ) → IsWhole k → int_lt k n ≡ int_lt k m
  pub under : (k : ℤ) → IsWhole k → int_lt n k ≡ int_lt m k
  pub equal : (k : ℤ) → IsWhole k → int_eq n k ≡ int_eq m k

-- tests of what may be there agree where they do on what is
some_agree : {X : Type 0} (o : Option X) (p q : X → Bool) → ((x : X) → o ≡ Some x → p x ≡ q x) → is_some_and o p ≡ is_some_and o q
some_agree None p q h = refl
some_agree (Some x) p q h = h x refl

module _ {X : Type 0} (P : X → Type 0) (p q : X → Bool) (agree : (x : X) → P x → p x ≡ q x) where
  all_agree : (xs : List X) → AllByRecursion P xs → list_all p xs ≡ list_all q xs
  all_agree [] h = refl
  all_agree (x ∷ xs) h = ap (λ t. t && list_all p xs) (agree x h.0) ∙ ap (λ t. q x && t) (all_agree xs h.1)

  any_agrees : (xs : List X) → AllByRecursion P xs → list_any p xs ≡ list_any q xs
  any_agrees [] h = refl
  any_agrees (x ∷ xs) h = ap (λ t. t || list_any p xs) (agree x h.0) ∙ ap (λ t. q x || t) (any_agrees xs h.1)

  counts_agree : (xs : List X) → AllByRecursion P xs → count_by p xs ≡ count_by q xs
  counts_agree [] h = refl
  counts_agree (x ∷ xs) h =
      sum_by-cons (λ y. cond (p y) 1 0) x xs
      ∙ ap (λ t. cond t 1 0 + count_by p xs) (agree x h.0)
      ∙ ap (λ k. cond (q x) 1 0 + k) (counts_agree xs h.1)
      ∙ sym (sum_by-cons (λ y. cond (q y) 1 0) x xs)

module _ (n m : ℤ) (alike : StandAlike n m) where
  same_between : (low high : ℤ) → IsWhole low → IsWhole high → is_between low high n ≡ is_between low high m
  same_between low high a b = ap (λ t. t && int_le n high) (alike.above low a) ∙ ap (λ t. int_le low m && t) (alike.below high b)

  same_else : (b : Bool) (x y u v : Bool) → x ≡ y → u ≡ v → (if b then x else u) ≡ (if b then y else v)
  same_else true x y u v e f = e
  same_else false x y u v e f = f

  same_format : (name : List ℕ) → in_format name n ≡ in_format name m
  unfolding in_format
  same_format name =
      same_else (bytes_eq name (codes "int8")) _ _ _ _ (same_between (negsuc (2 ^ 7 - 1)) (pos (2 ^ 7 - 1)) (omega arith, omega arith) (omega arith, omega arith))
      (same_else (bytes_eq name (codes "int16")) _ _ _ _ (same_between (negsuc (2 ^ 15 - 1)) (pos (2 ^ 15 - 1)) (omega arith, omega arith) (omega arith, omega arith))
      (same_else (bytes_eq name (codes "int32")) _ _ _ _ (same_between (negsuc (2 ^ 31 - 1)) (pos (2 ^ 31 - 1)) (omega arith, omega arith) (omega arith, omega arith))
      (same_else (bytes_eq name (codes "int64")) _ _ _ _ (same_between (negsuc (2 ^ 63 - 1)) (pos (2 ^ 63 - 1)) (omega arith, omega arith) (omega arith, omega arith))
      (same_else (bytes_eq name (codes "uint8")) _ _ _ _ (same_between (pos 0) (pos (2 ^ 8 - 1)) (omega arith, omega arith) (omega arith, omega arith))
      (same_else (bytes_eq name (codes "uint16")) _ _ _ _ (same_between (pos 0) (pos (2 ^ 16 - 1)) (omega arith, omega arith) (omega arith, omega arith))
      (same_else (bytes_eq name (codes "uint32")) _ _ _ _ (same_between (pos 0) (pos (2 ^ 32 - 1)) (omega arith, omega arith) (omega arith, omega arith))
      (same_else (bytes_eq name (codes "uint64")) _ _ _ _ (same_between (pos 0) (pos (2 ^ 64 - 1)) (omega arith, omega arith) (omega arith, omega arith)) refl)))))))

  -- the test of equality with a sound value
  same_test : (x : Json) → IsSound x → same_json (Int n) x ≡ same_json (Int m) x
  same_test Null h = refl
  same_test (Truth b) h = refl
  same_test (Int k) h = alike.equal k h
  same_test (Text t) h = refl
  same_test (List' shape items) h = refl
  same_test (Object' shape members) h = refl

  same_least : (strictly : Bool) (k : ℤ) → IsWhole k → is_under strictly k n ≡ is_under strictly k m
  same_least true k h = alike.over k h
  same_least false k h = alike.above k h

  same_greatest : (strictly : Bool) (k : ℤ) → IsWhole k → is_under strictly n k ≡ is_under strictly m k
  same_greatest true k h = alike.under k h
  same_greatest false k h = alike.below k h

  module _ (smaller : Json → Json → Bool) (p q : Json → Bool) (agree : (s : Json) → IsSound s → p s ≡ q s) (schema : List Member) where
    same_row : (k : Keyword) (s : Json) → IsSound s → row smaller p (Int n) (Json-F.Int n) schema k s ≡ row smaller q (Int m) (Json-F.Int m) schema k s
    same_row Reference s h = refl
    same_row Nullable s h = refl
    same_row Annotation s h = refl
    same_row OfType s h = refl
    same_row Format s h = ap (λ t. not (is_integer schema) || t) (some_agree (as_text (out-Json s)) _ _ (λ name e. same_format name))
    same_row Enum s h = some_agree (as_list (out-Json s)) _ _ (λ xs e. any_agrees IsSound _ _ same_test xs (listed_sound s h xs e))
    same_row Minimum s h = some_agree (as_number (out-Json s)) _ _ (λ k e. same_least (is_set (codes "exclusiveMinimum") schema) k (number_whole s h k e))
    same_row Maximum s h = some_agree (as_number (out-Json s)) _ _ (λ k e. same_greatest (is_set (codes "exclusiveMaximum") schema) k (number_whole s h k e))
    same_row ExclusiveMinimum s h = refl
    same_row ExclusiveMaximum s h = refl
    same_row MinLength s h = refl
    same_row MaxLength s h = refl
    same_row Items s h = refl
    same_row MinItems s h = refl
    same_row MaxItems s h = refl
    same_row Properties s h = refl
    same_row Required s h = refl
    same_row AdditionalProperties s h = refl
    same_row MinProperties s h = refl
    same_row MaxProperties s h = refl
    same_row AllOf s h = some_agree (as_list (out-Json s)) _ _ (λ xs e. all_agree IsSound p q agree xs (listed_sound s h xs e))
    same_row AnyOf s h = some_agree (as_list (out-Json s)) _ _ (λ xs e. any_agrees IsSound p q agree xs (listed_sound s h xs e))
    same_row OneOf s h = some_agree (as_list (out-Json s)) _ _ (λ xs e. ap (λ count. count == 1) (counts_agree IsSound p q agree xs (listed_sound s h xs e)))
    same_row Not s h = refl
    same_row Other s h = refl

    same_object : AllByRecursion HasSoundValue schema → object_admits smaller p (Int n) (Json-F.Int n) schema ≡ object_admits smaller q (Int m) (Json-F.Int m) schema
    same_object h =
        ap (λ t. in_subset schema && (is_set (codes "nullable") schema && false || (if is_null_form schema then false else t)))
        (all_agree HasSoundValue _ _ (λ x sound. same_row (keyword_of x.name) x.value sound) schema h)

  same_schema : (doc : Json) (smaller : Json → Json → Bool) (p q : Json → Bool) → IsSound doc → ((s : Json) → IsSound s → p s ≡ q s) → (s : Json) → IsSound s
      → schema_admits doc smaller p (Int n) (Json-F.Int n) s ≡ schema_admits doc smaller q (Int m) (Json-F.Int m) s
  same_schema doc smaller p q sound agree s h =
      some_agree (as_object (out-Json s)) _ _ (λ schema e. referred schema (reference_in schema) (values_sound s h schema e))
    where
      referred : (schema : List Member) (o : Option (List ℕ)) → AllByRecursion HasSoundValue schema
          → option_map_or (λ name. is_some_and (definition doc name) p) o (object_admits smaller p (Int n) (Json-F.Int n) schema) ≡ option_map_or (λ name. is_some_and (definition doc name) q) o (object_admits smaller q (Int m) (Json-F.Int m) schema)
      referred schema None held = same_object smaller p q agree schema held
      referred schema (Some name) held = some_agree (definition doc name) p q (λ d e. agree d (definition_sound doc name d sound e))

  level_is : (doc : Json) (smaller : Json → Json → Bool) (p : Json → Bool) (k : ℤ) (s : Json) → schema_admits doc smaller p (Int k) (out-Json (Int k)) s ≡ schema_admits doc smaller p (Int k) (Json-F.Int k) s
  level_is doc smaller p k s = ap (λ (x : Level Json). schema_admits doc smaller p (Int k) x s) (outs-Int k)

  pub admitted_alike : (doc : Json) (room steps : ℕ) → IsSound doc → (s : Json) → IsSound s → admits_within doc room (Int n) steps s ≡ admits_within doc room (Int m) steps s
  admitted_alike doc room zero sound s h = admits-zero doc room (Int n) s ∙ sym (admits-zero doc room (Int m) s)
  admitted_alike doc room (suc steps) sound s h =
      admits-suc doc room (Int n) steps s
      ∙ level_is doc (smaller_admits doc room) (admits_within doc room (Int n) steps) n s
      ∙ same_schema doc (smaller_admits doc room) (admits_within doc room (Int n) steps) (admits_within doc room (Int m) steps) sound (admitted_alike doc room steps sound) s h
      ∙ sym (level_is doc (smaller_admits doc room) (admits_within doc room (Int m) steps) m s)
      ∙ sym (admits-suc doc room (Int m) steps s)
