-- One level of a schema, with the refusals of the smaller ones.
use Rattle.std.proofs.Common.{◌≡◌, List, [], ◌∷◌, Bool, true, false, Option, Some, None, is_some, option_map, unwrap_or, map, refl, ◌∙◌, ap}
use Rattle.std.specs.Option.{option_or}
use Rattle.schema_values.specs.declared.schema.ArrayParts.{ArrayParts, fold_out-ArrayParts}
use Rattle.schema_values.specs.declared.schema.Items.{One, Tuple, fold_out-Items}
use Rattle.schema_values.specs.declared.schema.Items.TheViews.{outs-One, outs-Tuple, outs-Bool, outs-Object}
use Rattle.schema_values.specs.declared.schema.ObjectParts.{ObjectParts, out-ObjectParts, fold_out-ObjectParts}
use Rattle.schema_values.specs.declared.schema.Property.{Property, fold_out-Property}
use Rattle.schema_values.specs.declared.schema.Schema.{Schema, Bool as Truth, Object, fold_out-Schema}
use Rattle.schema_values.specs.declared.schema.SchemaObject.{SchemaObject, out-SchemaObject, fold_out-SchemaObject}
use Rattle.schema_values.specs.declared.schema.Subschemas.{Subschemas, Subschemas-F, fold_out-Subschemas}
use Rattle.openapi_values.specs.Refusal.{Refusal, Within, Inner, Level, first_of, is_one_kind, object_level, schema_step, items_step, array_step, property_step, object_parts_step, subschemas_step, object_step, refusal_of, items_within, array_within, object_parts_refusal, property_refusal, object_refusal, subschemas_inner}
use Rattle.openapi_values.proofs.PartMaps.{items-map, additional-map, array-map, object-map, subschemas-map, all_of-map}

pub truth-is : (truth : Bool) → refusal_of (Truth truth) ≡ None
unfolding refusal_of
truth-is truth = fold_out-Schema Within Refusal (Option Within) Refusal Refusal Refusal Inner items_step schema_step array_step object_parts_step property_step object_step subschemas_step (Truth truth) ∙ rw (outs-Bool truth) refl

pub object-is : (object : SchemaObject) → refusal_of (Object object) ≡ object_refusal object
unfolding refusal_of object_refusal
object-is object = fold_out-Schema Within Refusal (Option Within) Refusal Refusal Refusal Inner items_step schema_step array_step object_parts_step property_step object_step subschemas_step (Object object) ∙ rw (outs-Object object) refl

pub item-is : (schema : Schema) → items_within (One schema) ≡ record { by_place = false; refusal = refusal_of schema }
unfolding refusal_of items_within
item-is schema = fold_out-Items Within Refusal (Option Within) Refusal Refusal Refusal Inner items_step schema_step array_step object_parts_step property_step object_step subschemas_step (One schema) ∙ rw (outs-One schema) refl

pub tuple-is : (schemas : List Schema) → items_within (Tuple schemas) ≡ record { by_place = true; refusal = first_of (map refusal_of schemas) }
unfolding refusal_of items_within
tuple-is schemas = fold_out-Items Within Refusal (Option Within) Refusal Refusal Refusal Inner items_step schema_step array_step object_parts_step property_step object_step subschemas_step (Tuple schemas) ∙ rw (outs-Tuple schemas) refl

pub property-is : (property : Property) → property_refusal property ≡ refusal_of property.schema
unfolding refusal_of property_refusal
property-is property = fold_out-Property Within Refusal (Option Within) Refusal Refusal Refusal Inner items_step schema_step array_step object_parts_step property_step object_step subschemas_step property

pub array-is : (array : ArrayParts) → array_within array ≡ option_map items_within array.items
unfolding array_within items_within
array-is array = fold_out-ArrayParts Within Refusal (Option Within) Refusal Refusal Refusal Inner items_step schema_step array_step object_parts_step property_step object_step subschemas_step array ∙ items-map items_within array.items

pub object_parts-are : (object : ObjectParts) → object_parts_refusal object ≡
    option_or (first_of (map property_refusal (out-ObjectParts object).properties)) (unwrap_or (option_map refusal_of (out-ObjectParts object).additional) None)
unfolding object_parts_refusal refusal_of property_refusal
object_parts-are object = fold_out-ObjectParts Within Refusal (Option Within) Refusal Refusal Refusal Inner items_step schema_step array_step object_parts_step property_step object_step subschemas_step object
    ∙ ap (λ o. option_or (first_of (map property_refusal (out-ObjectParts object).properties)) (unwrap_or o None)) (additional-map refusal_of (out-ObjectParts object).additional)

-- one level of subschemas, in which each schema stands as its refusal
abbrev subschemas_level : Subschemas → Level Subschemas-F
subschemas_level subschemas = record {
  all_of = option_map (map refusal_of) subschemas.all_of;
  any_of = option_map (map refusal_of) subschemas.any_of;
  one_of = option_map (map refusal_of) subschemas.one_of;
  not = option_map refusal_of subschemas.not;
}

subschemas-are : (subschemas : Subschemas) → subschemas_inner subschemas ≡ subschemas_step (subschemas_level subschemas)
unfolding subschemas_inner refusal_of
subschemas-are subschemas = fold_out-Subschemas Within Refusal (Option Within) Refusal Refusal Refusal Inner items_step schema_step array_step object_parts_step property_step object_step subschemas_step subschemas
    ∙ rw (all_of-map refusal_of subschemas.all_of, all_of-map refusal_of subschemas.any_of, all_of-map refusal_of subschemas.one_of, additional-map refusal_of subschemas.not) refl

pub same_given : {A B : Type 0} (f : A → B) (o : Option A) → is_some (option_map f o) ≡ is_some o
same_given f None = refl
same_given f (Some a) = refl

pub one_kind-is : (subschemas : Subschemas) → (subschemas_inner subschemas).one_kind ≡ is_one_kind (is_some subschemas.all_of ∷ is_some subschemas.any_of ∷ is_some subschemas.one_of ∷ is_some subschemas.not ∷ [])
one_kind-is subschemas = ap (λ i. i.one_kind) (subschemas-are subschemas)
    ∙ rw (same_given (map refusal_of) subschemas.all_of, same_given (map refusal_of) subschemas.any_of, same_given (map refusal_of) subschemas.one_of, same_given refusal_of subschemas.not) refl

pub inner-is : (subschemas : Subschemas) → (subschemas_inner subschemas).refusal ≡
    option_or (first_of (unwrap_or (option_map (map refusal_of) subschemas.all_of) []))
    (option_or (first_of (unwrap_or (option_map (map refusal_of) subschemas.any_of) []))
    (option_or (first_of (unwrap_or (option_map (map refusal_of) subschemas.one_of) []))
    (unwrap_or (option_map refusal_of subschemas.not) None)))
inner-is subschemas = ap (λ i. i.refusal) (subschemas-are subschemas)

pub parts-are : (schema : SchemaObject) → object_refusal schema ≡ object_step (object_level schema)
unfolding object_refusal array_within object_parts_refusal subschemas_inner
parts-are schema = fold_out-SchemaObject Within Refusal (Option Within) Refusal Refusal Refusal Inner items_step schema_step array_step object_parts_step property_step object_step subschemas_step schema
    ∙ rw (array-map array_within (out-SchemaObject schema).array, object-map object_parts_refusal (out-SchemaObject schema).object, subschemas-map subschemas_inner (out-SchemaObject schema).subschemas) refl
