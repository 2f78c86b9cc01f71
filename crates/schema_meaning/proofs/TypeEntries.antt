-- The entries of a type are read whatever values they have.
use Rattle.std.proofs.Common.{◌≡◌, ℕ, Bool, List, [], ◌∷◌, Option, Some, None, option_map, unwrap_or, nat_le, int_le, pos, refl, sym, subst, ap}
use Rattle.std.specs.List.{list_any}
use Rattle.std.specs.Option.{option_map_or}
use Rattle.schema_values.specs.declared.json_value.Json.{Json, Null as NullJson, Text}
use Rattle.schema_values.specs.declared.json_value.Json.TheVariants as json
use Rattle.schema_values.specs.declared.json_value.Member.{Member}
use Rattle.schema_values.specs.declared.schema.ArrayParts.{ArrayParts}
use Rattle.schema_values.specs.declared.schema.InstanceType.TheVariants.{Null, Boolean, Object, Array, Number, String, Integer}
use Rattle.schema_values.specs.declared.schema.InstanceTypes.{InstanceTypes}
use Rattle.schema_values.specs.declared.schema.InstanceTypes.TheVariants.{Single, Several}
use Rattle.schema_values.specs.declared.schema.NumberBounds.{NumberBounds}
use Rattle.schema_values.specs.declared.schema.ObjectParts.{ObjectParts}
use Rattle.schema_values.specs.Parts.{Parts}
use Rattle.schema_values.specs.Same.{same_json}
use Rattle.openapi_values.specs.declared.keywords.Keyword.TheVariants.{OfType}
use Rattle.openapi_values.specs.Keywords.{is_annotation, bound_or, part_of}
use Rattle.openapi_values.specs.Levels.{Level, as_text, as_list, as_number, has_type}
use Rattle.openapi_values.specs.Options.{is_none_or, is_some_and}
use Rattle.openapi_values.specs.Rows.{row, is_listed, is_enough, is_not_too_many}
use Rattle.openapi_values.specs.SchemaJson.{const_values, values_of, values_json, enum_entries, number_entries, bound_entries, count_json, type_entries, array_written, object_parts_written}
use Rattle.openapi_values.proofs.CallerLemmas.{array-is, object_parts-are}
use Rattle.schema_meaning.proofs.Behind.{ArePlain, both_plain}
use Rattle.schema_meaning.proofs.WrittenLevels.{level_of}

enum_plain : (o : Option (List Json)) → ArePlain (enum_entries o)
unfolding is_annotation bound_or part_of
enum_plain o = ((λ v. refl, refl, refl), tt)

bounds_plain : (o : Option NumberBounds) → ArePlain (option_map_or bound_entries o [])
unfolding is_annotation bound_or part_of
bounds_plain None = tt
bounds_plain (Some b) = ((λ v. refl, refl, refl), ((λ v. refl, refl, refl), ((λ v. refl, refl, refl), ((λ v. refl, refl, refl), tt))))

number_plain : (format : Option (List ℕ)) (bounds : Option NumberBounds) (values : Option (List Json)) → ArePlain (number_entries format bounds values)
unfolding is_annotation bound_or part_of
number_plain format bounds values = ((λ v. refl, refl, refl), both_plain (option_map_or bound_entries bounds []) (enum_entries values) (bounds_plain bounds) (enum_plain values))

array_plain : (o : Option ArrayParts) → ArePlain (unwrap_or (option_map array_written o) [])
unfolding is_annotation bound_or part_of
array_plain None = tt
array_plain (Some a) = subst ArePlain (sym (array-is a)) ((λ v. refl, refl, refl), ((λ v. refl, refl, refl), ((λ v. refl, refl, refl), tt)))

object_plain : (o : Option ObjectParts) → ArePlain (unwrap_or (option_map object_parts_written o) [])
unfolding is_annotation bound_or part_of
object_plain None = tt
object_plain (Some o) =
    subst ArePlain (sym (object_parts-are o)) ((λ v. refl, refl, refl), ((λ v. refl, refl, refl), ((λ v. refl, refl, refl), ((λ v. refl, refl, refl), ((λ v. refl, refl, refl), tt)))))

pub type_plain : (t : Option InstanceTypes) (p : Parts) → ArePlain (type_entries t (level_of p))
unfolding is_annotation bound_or part_of
type_plain None p = tt
type_plain (Some (Several types)) p = tt
type_plain (Some (Single Null)) p = ((λ v. refl, refl, refl), enum_plain (Some (unwrap_or (const_values p.const_value) (NullJson ∷ []))))
type_plain (Some (Single Boolean)) p = ((λ v. refl, refl, refl), enum_plain (values_of p.const_value p.enum_values))
type_plain (Some (Single Object)) p = ((λ v. refl, refl, refl), both_plain (enum_entries (const_values p.const_value)) (unwrap_or (option_map object_parts_written p.object) []) (enum_plain (const_values p.const_value)) (object_plain p.object))
type_plain (Some (Single Array)) p = ((λ v. refl, refl, refl), both_plain (enum_entries (const_values p.const_value)) (unwrap_or (option_map array_written p.array) []) (enum_plain (const_values p.const_value)) (array_plain p.array))
type_plain (Some (Single Number)) p = ((λ v. refl, refl, refl), number_plain p.format p.number (values_of p.const_value p.enum_values))
type_plain (Some (Single String)) p = ((λ v. refl, refl, refl), ((λ v. refl, refl, refl), ((λ v. refl, refl, refl), ((λ v. refl, refl, refl), ((λ v. refl, refl, refl), tt)))))
type_plain (Some (Single Integer)) p = ((λ v. refl, refl, refl), number_plain p.format p.number (values_of p.const_value p.enum_values))

-- ---- rows of many types

pub type_row : {X : Type 0} (smaller : X → Json → Bool) (next : Json → Bool) (value : Json) (j : Level X) (schema : List Member) (name : List ℕ) → row smaller next value j schema OfType (Text name) ≡ has_type name j
type_row smaller next value j schema name = ap (λ (x : Level Json). is_some_and (as_text x) (λ name. has_type name j)) (json.outs-Text name)

pub enum_part : (value : Json) (o : Option (List Json)) → is_none_or (values_json o) (is_listed value) ≡ is_none_or o (list_any (same_json value))
enum_part value None = refl
enum_part value (Some vs) = ap (λ (x : Level Json). is_some_and (as_list x) (list_any (same_json value))) (json.outs-List vs)

pub least_part : (o : Option ℕ) (c : ℕ) → is_none_or (count_json o) (is_enough c) ≡ is_none_or o (λ least. nat_le least c)
least_part None c = refl
least_part (Some k) c = ap (λ (x : Level Json). is_some_and (as_number x) (λ least. int_le least (pos c))) (json.outs-Int (pos k))

pub most_part : (o : Option ℕ) (c : ℕ) → is_none_or (count_json o) (is_not_too_many c) ≡ is_none_or o (λ most. nat_le c most)
most_part None c = refl
most_part (Some k) c = ap (λ (x : Level Json). is_some_and (as_number x) (λ most. int_le (pos c) most)) (json.outs-Int (pos k))
