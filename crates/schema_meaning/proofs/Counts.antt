-- How the schemas in a schema are counted, from one level.
use Rattle.std.proofs.Common.{◌≡◌, ℕ, suc, ◌+◌, ◌≤◌, List, [], ◌∷◌, ◌++◌, map, sum, Option, Some, None, option_map, unwrap_or, cond, Bool, true, false, refl, ◌∙◌, ap, arith}
use Rattle.std.specs.Option.{option_map_or}
use Rattle.std.proofs.lemmas.List.Sums.{sum_by-cons}
use Rattle.schema_values.specs.declared.schema.ArrayParts.{ArrayParts, fold-ArrayParts, fold_out-ArrayParts}
use Rattle.schema_values.specs.declared.schema.InstanceType.TheVariants.{Null, Boolean, Object, Array, Number, String, Integer}
use Rattle.schema_values.specs.declared.schema.InstanceTypes.{InstanceTypes}
use Rattle.schema_values.specs.declared.schema.InstanceTypes.TheVariants.{Single, Several}
use Rattle.schema_values.specs.declared.schema.Items.{Items, out-Items, fold-Items, fold_out-Items}
use Rattle.schema_values.specs.declared.schema.Items.TheOpen.{Items-F, Schema-F}
use Rattle.schema_values.specs.declared.schema.ObjectParts.{ObjectParts, out-ObjectParts, fold-ObjectParts, fold_out-ObjectParts}
use Rattle.schema_values.specs.declared.schema.Property.{Property, fold-Property, fold_out-Property}
use Rattle.schema_values.specs.declared.schema.Schema.{Schema, out-Schema, fold_out-Schema}
use Rattle.schema_values.specs.declared.schema.SchemaObject.{SchemaObject, out-SchemaObject, fold-SchemaObject, fold_out-SchemaObject}
use Rattle.schema_values.specs.declared.schema.Subschemas.{Subschemas, fold-Subschemas, fold_out-Subschemas}
use Rattle.schema_values.specs.Parts.{Parts}
use Rattle.openapi_values.proofs.CallerLemmas.{items-map, additional-map, array-map, object-map, subschemas-map, all_of-map}
use Rattle.schema_meaning.specs.Count.{items_step, schema_step, array_step, object_parts_step, property_step, object_step, subschemas_step, schemas}
use Rattle.schema_meaning.specs.Forms.{SchemaLevel, ItemsLevel, level_by_form, items_by_form}
use Rattle.schema_meaning.specs.Reached.{if_any, combined_schemas, item_schemas, array_schemas, object_schemas, smaller_schemas, stands_alone, beside_in, below_in, beside, below}
use Rattle.schema_meaning.proofs.Among.{sum_append}

unfoldable in_items : Items → ℕ
in_items = fold-Items ℕ ℕ ℕ ℕ ℕ ℕ ℕ items_step schema_step array_step object_parts_step property_step object_step subschemas_step

unfoldable in_array : ArrayParts → ℕ
in_array = fold-ArrayParts ℕ ℕ ℕ ℕ ℕ ℕ ℕ items_step schema_step array_step object_parts_step property_step object_step subschemas_step

unfoldable in_object : ObjectParts → ℕ
in_object = fold-ObjectParts ℕ ℕ ℕ ℕ ℕ ℕ ℕ items_step schema_step array_step object_parts_step property_step object_step subschemas_step

unfoldable in_property : Property → ℕ
in_property = fold-Property ℕ ℕ ℕ ℕ ℕ ℕ ℕ items_step schema_step array_step object_parts_step property_step object_step subschemas_step

unfoldable inside : SchemaObject → ℕ
inside = fold-SchemaObject ℕ ℕ ℕ ℕ ℕ ℕ ℕ items_step schema_step array_step object_parts_step property_step object_step subschemas_step

unfoldable in_subschemas : Subschemas → ℕ
in_subschemas = fold-Subschemas ℕ ℕ ℕ ℕ ℕ ℕ ℕ items_step schema_step array_step object_parts_step property_step object_step subschemas_step

truth-is : (s : Schema) (b : Bool) → out-Schema s ≡ Schema-F.Bool b → schemas s ≡ 1
unfolding schemas
truth-is s b e = fold_out-Schema ℕ ℕ ℕ ℕ ℕ ℕ ℕ items_step schema_step array_step object_parts_step property_step object_step subschemas_step s ∙ rw e refl

object-under : (s : Schema) (o : SchemaObject) → out-Schema s ≡ Schema-F.Object o → schemas s ≡ suc (inside o)
unfolding schemas inside
object-under s o e = fold_out-Schema ℕ ℕ ℕ ℕ ℕ ℕ ℕ items_step schema_step array_step object_parts_step property_step object_step subschemas_step s ∙ rw e refl

one-is : (i : Items) (s : Schema) → out-Items i ≡ Items-F.One s → in_items i ≡ schemas s
unfolding schemas in_items
one-is i s e = fold_out-Items ℕ ℕ ℕ ℕ ℕ ℕ ℕ items_step schema_step array_step object_parts_step property_step object_step subschemas_step i ∙ rw e refl

tuple-is : (i : Items) (ss : List Schema) → out-Items i ≡ Items-F.Tuple ss → in_items i ≡ sum (map schemas ss)
unfolding schemas in_items
tuple-is i ss e = fold_out-Items ℕ ℕ ℕ ℕ ℕ ℕ ℕ items_step schema_step array_step object_parts_step property_step object_step subschemas_step i ∙ rw e refl

array-is : (a : ArrayParts) → in_array a ≡ unwrap_or (option_map in_items a.items) 0
unfolding in_array in_items
array-is a = fold_out-ArrayParts ℕ ℕ ℕ ℕ ℕ ℕ ℕ items_step schema_step array_step object_parts_step property_step object_step subschemas_step a ∙ ap (λ (o : Option ℕ). unwrap_or o 0) (items-map in_items a.items)

property-is : (p : Property) → in_property p ≡ schemas p.schema
unfolding in_property schemas
property-is p = fold_out-Property ℕ ℕ ℕ ℕ ℕ ℕ ℕ items_step schema_step array_step object_parts_step property_step object_step subschemas_step p

object-is : (o : ObjectParts) → in_object o ≡ sum (map in_property (out-ObjectParts o).properties) + unwrap_or (option_map schemas (out-ObjectParts o).additional) 0
unfolding in_object in_property schemas
object-is o =
    fold_out-ObjectParts ℕ ℕ ℕ ℕ ℕ ℕ ℕ items_step schema_step array_step object_parts_step property_step object_step subschemas_step o
    ∙ ap (λ (x : Option ℕ). sum (map in_property (out-ObjectParts o).properties) + unwrap_or x 0) (additional-map schemas (out-ObjectParts o).additional)

subschemas-are : (u : Subschemas) → in_subschemas u ≡
    sum (unwrap_or (option_map (map schemas) u.all_of) []) + sum (unwrap_or (option_map (map schemas) u.any_of) []) + sum (unwrap_or (option_map (map schemas) u.one_of) []) + unwrap_or (option_map schemas u.not) 0
unfolding in_subschemas schemas
subschemas-are u =
    fold_out-Subschemas ℕ ℕ ℕ ℕ ℕ ℕ ℕ items_step schema_step array_step object_parts_step property_step object_step subschemas_step u
    ∙ rw (all_of-map schemas u.all_of, all_of-map schemas u.any_of, all_of-map schemas u.one_of, additional-map schemas u.not) refl

inside-is : (o : SchemaObject) → inside o ≡
    unwrap_or (option_map in_subschemas (out-SchemaObject o).subschemas) 0 + unwrap_or (option_map in_array (out-SchemaObject o).array) 0 + unwrap_or (option_map in_object (out-SchemaObject o).object) 0
unfolding inside in_subschemas in_array in_object
inside-is o =
    fold_out-SchemaObject ℕ ℕ ℕ ℕ ℕ ℕ ℕ items_step schema_step array_step object_parts_step property_step object_step subschemas_step o
    ∙ rw (array-map in_array (out-SchemaObject o).array, object-map in_object (out-SchemaObject o).object, subschemas-map in_subschemas (out-SchemaObject o).subschemas) refl

-- ---- the schemas inside are no more

items_fit : (i : Items) → sum (map schemas (item_schemas i)) ≤ in_items i
items_fit i = by_level (out-Items i) refl
  where
    by_level : (z : ItemsLevel) → out-Items i ≡ z → sum (map schemas (items_by_form (λ s. s ∷ []) (λ ss. ss) z)) ≤ in_items i
    by_level (Items-F.One s) e = omega (arith, one-is i s e, sum_by-cons (λ n. n) (schemas s) [])
    by_level (Items-F.Tuple ss) e = omega (arith, tuple-is i ss e)

array_fits : (o : Option ArrayParts) → sum (map schemas (option_map_or array_schemas o [])) ≤ unwrap_or (option_map in_array o) 0
array_fits None = omega arith
array_fits (Some a) = rw (array-is a) (by_items a.items)
  where
    by_items : (o : Option Items) → sum (map schemas (option_map_or item_schemas o [])) ≤ unwrap_or (option_map in_items o) 0
    by_items None = omega arith
    by_items (Some i) = items_fit i

one_fits : (o : Option Schema) → sum (map schemas (if_any o)) ≤ unwrap_or (option_map schemas o) 0
one_fits None = omega arith
one_fits (Some s) = omega (arith, sum_by-cons (λ n. n) (schemas s) [])

properties_fit : (ps : List Property) → sum (map schemas (map (λ p. p.schema) ps)) ≤ sum (map in_property ps)
properties_fit [] = omega arith
properties_fit (p ∷ ps) = omega (arith, properties_fit ps, property-is p, sum_by-cons (λ n. n) (schemas p.schema) (map schemas (map (λ p. p.schema) ps)), sum_by-cons (λ n. n) (in_property p) (map in_property ps))

object_fits : (o : Option ObjectParts) → sum (map schemas (option_map_or object_schemas o [])) ≤ unwrap_or (option_map in_object o) 0
object_fits None = omega arith
object_fits (Some o) =
    let q = out-ObjectParts o in
    omega (arith, object-is o, sum_append schemas (map (λ p. p.schema) q.properties) (if_any q.additional), properties_fit q.properties, one_fits q.additional)

some_fit : (o : Option (List Schema)) → sum (map schemas (unwrap_or o [])) ≤ sum (unwrap_or (option_map (map schemas) o) [])
some_fit None = omega arith
some_fit (Some ss) = omega arith

subschemas_fit : (o : Option Subschemas) → sum (map schemas (option_map_or combined_schemas o [])) ≤ unwrap_or (option_map in_subschemas o) 0
subschemas_fit None = omega arith
subschemas_fit (Some u) =
    let one = unwrap_or u.one_of [] ++ if_any u.not in
    let any = unwrap_or u.any_of [] ++ one in
    omega (
      arith,
      subschemas-are u,
      sum_append schemas (unwrap_or u.all_of []) any,
      sum_append schemas (unwrap_or u.any_of []) one,
      sum_append schemas (unwrap_or u.one_of []) (if_any u.not),
      some_fit u.all_of,
      some_fit u.any_of,
      some_fit u.one_of,
      one_fits u.not,
    )

smaller_fit : (t : Option InstanceTypes) (p : Parts) → sum (map schemas (smaller_schemas t p)) ≤ unwrap_or (option_map in_array p.array) 0 + unwrap_or (option_map in_object p.object) 0
smaller_fit None p = omega arith
smaller_fit (Some (Several types)) p = omega arith
smaller_fit (Some (Single Null)) p = omega arith
smaller_fit (Some (Single Boolean)) p = omega arith
smaller_fit (Some (Single Object)) p = omega (arith, object_fits p.object)
smaller_fit (Some (Single Array)) p = omega (arith, array_fits p.array)
smaller_fit (Some (Single Number)) p = omega arith
smaller_fit (Some (Single String)) p = omega arith
smaller_fit (Some (Single Integer)) p = omega arith

unless_alone : (b : Bool) (ss : List Schema) (n : ℕ) → sum (map schemas ss) ≤ n → sum (map schemas (cond b [] ss)) ≤ n
unless_alone true ss n h = omega arith
unless_alone false ss n h = h

-- a schema counts for those inside it
pub schemas_count : (s : Schema) → suc (sum (map schemas (beside s)) + sum (map schemas (below s))) ≤ schemas s
schemas_count s = by_form (out-Schema s) refl
  where
    by_form : (z : SchemaLevel) → out-Schema s ≡ z → suc (sum (map schemas (level_by_form (λ b. []) beside_in z)) + sum (map schemas (level_by_form (λ b. []) below_in z))) ≤ schemas s
    by_form (Schema-F.Bool b) e = omega (arith, truth-is s b e)
    by_form (Schema-F.Object o) e =
        let p = out-SchemaObject o in
        omega (
          arith,
          object-under s o e,
          inside-is o,
          unless_alone (stands_alone p) (option_map_or combined_schemas p.subschemas []) _ (subschemas_fit p.subschemas),
          unless_alone (stands_alone p) (smaller_schemas p.instance_type p) _ (smaller_fit p.instance_type p),
        )
