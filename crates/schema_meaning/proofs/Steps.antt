-- The parts of a schema ask of a value what they ask where the smaller values stand beside what is made of them; one step of a schema.
use Rattle.std.proofs.Common.{◌≡◌, ℕ, suc, Bool, ◌&&◌, ◌||◌, List, [], ◌∷◌, map, Option, Some, None, length, if◌then◌else◌, refl, sym, ◌∙◌, ap}
use Rattle.std.specs.List.{list_all, list_any}
use Rattle.std.specs.Option.{option_map_or}
use Rattle.std.specs.Prelude.{option_and_then}
use Rattle.std.proofs.lemmas.List.Folds.{list_all-map}
use Rattle.std.proofs.lemmas.List.{length-map}
use Rattle.schema_values.specs.declared.json_value.Json.{Json, out-Json}
use Rattle.schema_values.specs.declared.json_value.Json.TheOpen.{Json-F}
use Rattle.schema_values.specs.declared.json_value.Member.{Member}
use Rattle.schema_values.specs.declared.schema.ArrayParts.{ArrayParts}
use Rattle.schema_values.specs.declared.schema.Items.{Items, out-Items}
use Rattle.schema_values.specs.declared.schema.Items.TheOpen.{Items-F, Schema-F}
use Rattle.schema_values.specs.declared.schema.ObjectParts.{ObjectParts, out-ObjectParts}
use Rattle.schema_values.specs.declared.schema.Schema.{Schema, out-Schema}
use Rattle.schema_values.specs.declared.schema.SchemaObject.{out-SchemaObject}
use Rattle.schema_values.specs.Beside.{Beside, beside_with, member_with, level_with}
use Rattle.schema_values.specs.Parts.{Parts}
use Rattle.schema_values.specs.Same.{same_json}
use Rattle.schema_values.proofs.CallerLemmas.{made-out}
use Rattle.openapi_values.specs.Levels.{Level, is_null, has_member}
use Rattle.openapi_values.specs.Options.{is_some_and, is_none_or}
use Rattle.openapi_values.proofs.CallerLemmas.{has_changed, all_same}
use Rattle.schema_meaning.specs.Asked.{count_holds, places_hold, items_hold, array_holds, member_holds, object_holds, is_of_types, is_null_form, subschemas_hold, object_is_read, parts_hold}
use Rattle.schema_meaning.specs.Definitions.{NamedSchemas, schema_named}
use Rattle.openapi_values.specs.Lookup.{name_in}
use Rattle.schema_meaning.specs.Forms.{SchemaLevel, ItemsLevel, level_by_form, items_by_form}
use Rattle.schema_meaning.specs.Meaning.{object_admits, schema_admits, Admission, admitted_beside, admits_at, admits_within}

-- whether a smaller value is admitted by a schema, with as many steps as at any value
abbrev pub smaller_admits : NamedSchemas → ℕ → Json → Schema → Bool
smaller_admits definitions room value schema = admits_within definitions room value room schema

none_alike : {X : Type 0} (p q : X → Bool) → ((x : X) → p x ≡ q x) → (o : Option X) → is_none_or o p ≡ is_none_or o q
none_alike p q h None = refl
none_alike p q h (Some x) = h x

module _ {X : Type 0} (f : Json → X) (smaller : Beside X → Schema → Bool) where
  abbrev plainly : Json → Schema → Bool
  plainly y = smaller (beside_with f y)

  same_places : (schemas : List Schema) (xs : List Json) → places_hold smaller schemas (map (beside_with f) xs) ≡ places_hold plainly schemas xs
  same_places [] xs = refl
  same_places (s ∷ ss) [] = refl
  same_places (s ∷ ss) (x ∷ xs) = ap (λ b. smaller (beside_with f x) s && b) (same_places ss xs)

  same_items : (xs : List Json) (items : Items) → items_hold smaller (map (beside_with f) xs) items ≡ items_hold plainly xs items
  same_items xs items = by_level (out-Items items)
    where
      by_level : (x : ItemsLevel) → items_by_form (λ s. list_all (λ x. smaller x s) (map (beside_with f) xs)) (λ ss. places_hold smaller ss (map (beside_with f) xs)) x
          ≡ items_by_form (λ s. list_all (λ x. plainly x s) xs) (λ ss. places_hold plainly ss xs) x
      by_level (Items-F.One s) = list_all-map (λ x. smaller x s) (beside_with f) xs
      by_level (Items-F.Tuple ss) = same_places ss xs

  same_array : (xs : List Json) (array : ArrayParts) → array_holds smaller (map (beside_with f) xs) array ≡ array_holds plainly xs array
  same_array xs array =
      ap (λ b. b && count_holds array.min array.max (length (map (beside_with f) xs))) (none_alike _ _ (same_items xs) array.items)
      ∙ ap (λ n. is_none_or array.items (items_hold plainly xs) && count_holds array.min array.max n) (length-map xs (beside_with f))

  same_object : (ms : List Member) (object : ObjectParts) → object_holds smaller (map (member_with f) ms) object ≡ object_holds plainly ms object
  same_object ms object =
      let o = out-ObjectParts object in
      ap (λ b. b && (list_all (λ name. has_member name (map (member_with f) ms)) o.required && count_holds o.min o.max (length (map (member_with f) ms))))
      (list_all-map (member_holds smaller o.properties o.additional) (member_with f) ms)
      ∙ ap (λ b. list_all (member_holds plainly o.properties o.additional) ms && (b && count_holds o.min o.max (length (map (member_with f) ms))))
      (all_same _ _ (λ name. has_changed f name ms) o.required)
      ∙ ap (λ n. list_all (member_holds plainly o.properties o.additional) ms && (list_all (λ name. has_member name ms) o.required && count_holds o.min o.max n))
      (length-map ms (member_with f))

  module _ (next : Schema → Bool) (json : Json) where
    -- what is asked, where `b` is asked of a list or an object
    abbrev rest : Level Json → Parts → Bool → Bool
    rest x parts b =
        parts.nullable && is_null x
        || (if is_null_form parts then is_null x
        else (is_none_or parts.instance_type (is_of_types x)
        && (is_none_or parts.enum_values (list_any (same_json json)) && (is_none_or parts.const_value (same_json json) && (b && is_none_or parts.subschemas (subschemas_hold next))))))

    same_parts : (x : Level Json) (parts : Parts) → parts_hold smaller next json (level_with f x) parts ≡ parts_hold plainly next json x parts
    same_parts Json-F.Null parts = refl
    same_parts (Json-F.Bool b) parts = refl
    same_parts (Json-F.Int n) parts = refl
    same_parts (Json-F.Text t) parts = refl
    same_parts (Json-F.List xs) parts = ap (λ b. rest (Json-F.List xs) parts b) (none_alike _ _ (same_array xs) parts.array)
    same_parts (Json-F.Object ms) parts = ap (λ b. rest (Json-F.Object ms) parts b) (none_alike _ _ (same_object ms) parts.object)

within_is : (definitions : NamedSchemas) (room : ℕ) (j : Json) → admits_within definitions room j ≡ admits_at definitions room j (level_with (admits_within definitions room) (out-Json j))
unfolding admits_within
within_is definitions room j = made-out (admits_at definitions room) j

same_schema : {X : Type 0} (definitions : NamedSchemas) (f : Json → X) (smaller : Beside X → Schema → Bool) (next : Schema → Bool) (json : Json) (x : Level Json) (s : Schema)
    → schema_admits definitions smaller next json (level_with f x) s ≡ schema_admits definitions (λ y. smaller (beside_with f y)) next json x s
same_schema definitions f smaller next json x s = by_level (out-Schema s)
  where
    by_level : (z : SchemaLevel) → level_by_form (λ b. b) (object_admits definitions smaller next json (level_with f x)) z ≡ level_by_form (λ b. b) (object_admits definitions (λ y. smaller (beside_with f y)) next json x) z
    by_level (Schema-F.Bool b) = refl
    by_level (Schema-F.Object o) =
        ap (λ b. option_map_or (λ text. is_some_and (option_and_then (schema_named definitions) (name_in (Some text))) next) (out-SchemaObject o).reference (object_is_read (out-SchemaObject o) && b)) (same_parts f smaller next json x (out-SchemaObject o))

-- one step of a schema
pub admits-suc : (definitions : NamedSchemas) (room : ℕ) (j : Json) (n : ℕ) (s : Schema)
    → admits_within definitions room j (suc n) s ≡ schema_admits definitions (smaller_admits definitions room) (admits_within definitions room j n) j (out-Json j) s
unfolding admits_at
admits-suc definitions room j n s =
    ap (λ (a : Admission). a (suc n) s) (within_is definitions room j)
    ∙ ap (λ (next : Schema → Bool). schema_admits definitions (admitted_beside room) next j (level_with (admits_within definitions room) (out-Json j)) s) (ap (λ (a : Admission). a n) (sym (within_is definitions room j)))
    ∙ same_schema definitions (admits_within definitions room) (admitted_beside room) (admits_within definitions room j n) j (out-Json j) s
