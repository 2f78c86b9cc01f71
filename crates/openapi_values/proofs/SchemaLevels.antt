-- One level of a schema, as it is written.
use Rattle.std.proofs.Common.{◌≡◌, ℕ, List, [], ◌∷◌, ◌++◌, Bool, Option, Some, None, option_map, map, codes, refl, ◌∙◌, ap}
use Rattle.std.specs.Option.{option_map_or}
use Rattle.schema_values.specs.declared.json_value.Json.{Json, List as ListOf}
use Rattle.schema_values.specs.declared.schema.ArrayParts.{ArrayParts, fold_out-ArrayParts}
use Rattle.schema_values.specs.declared.schema.Items.{One, Tuple, fold_out-Items}
use Rattle.schema_values.specs.declared.schema.ObjectParts.{ObjectParts, out-ObjectParts, fold_out-ObjectParts}
use Rattle.schema_values.specs.declared.schema.Property.{Property, fold_out-Property}
use Rattle.schema_values.specs.declared.schema.Schema.{Schema, Bool as Truth, Object, fold_out-Schema}
use Rattle.schema_values.specs.declared.schema.Items.TheViews.{outs-One, outs-Tuple, outs-Bool, outs-Object}
use Rattle.schema_values.specs.declared.schema.SchemaObject.{SchemaObject, out-SchemaObject, fold_out-SchemaObject}
use Rattle.schema_values.specs.declared.schema.Subschemas.{Subschemas, fold_out-Subschemas}
use Rattle.openapi_values.specs.Objects.{Entry, pair_member, object_of, reference_json, unless_empty}
use Rattle.openapi_values.proofs.PartMaps.{items-map, additional-map, array-map, object-map, subschemas-map, all_of-map}
use Rattle.openapi_values.specs.SchemaJson.{Written, untitled, truth_json, additional_json, names_json, schemas_json, annotations, entries_behind, object_level, schema_step, items_step, array_step, property_step, object_parts_step, subschemas_step, object_step, schema_written, items_written, array_written, object_parts_written, property_written, object_written, subschemas_written, count_json}

pub truth-is : (truth : Bool) → schema_written (Truth truth) ≡ record { truth = Some truth; under = λ title. truth_json truth }
unfolding schema_written
truth-is truth = fold_out-Schema Json Written (List Entry) (List Entry) (List ℕ × Json) (Option (List ℕ) → Json) (List Entry) items_step schema_step array_step object_parts_step property_step object_step subschemas_step (Truth truth) ∙ rw (outs-Bool truth) refl

pub object-under : (object : SchemaObject) → schema_written (Object object) ≡ record { truth = None; under = object_written object }
unfolding schema_written object_written
object-under object = fold_out-Schema Json Written (List Entry) (List Entry) (List ℕ × Json) (Option (List ℕ) → Json) (List Entry) items_step schema_step array_step object_parts_step property_step object_step subschemas_step (Object object) ∙ rw (outs-Object object) refl

pub item-is : (schema : Schema) → items_written (One schema) ≡ untitled (schema_written schema)
unfolding schema_written items_written
item-is schema = fold_out-Items Json Written (List Entry) (List Entry) (List ℕ × Json) (Option (List ℕ) → Json) (List Entry) items_step schema_step array_step object_parts_step property_step object_step subschemas_step (One schema) ∙ rw (outs-One schema) refl

pub tuple-is : (schemas : List Schema) → items_written (Tuple schemas) ≡ ListOf (map untitled (map schema_written schemas))
unfolding schema_written items_written
tuple-is schemas = fold_out-Items Json Written (List Entry) (List Entry) (List ℕ × Json) (Option (List ℕ) → Json) (List Entry) items_step schema_step array_step object_parts_step property_step object_step subschemas_step (Tuple schemas) ∙ rw (outs-Tuple schemas) refl

pub property-is : (property : Property) → property_written property ≡ (property.name, untitled (schema_written property.schema))
unfolding schema_written property_written
property-is property = fold_out-Property Json Written (List Entry) (List Entry) (List ℕ × Json) (Option (List ℕ) → Json) (List Entry) items_step schema_step array_step object_parts_step property_step object_step subschemas_step property

pub array-is : (array : ArrayParts) → array_written array ≡ (codes "items", option_map items_written array.items) ∷ (codes "minItems", count_json array.min) ∷ (codes "maxItems", count_json array.max) ∷ []
unfolding array_written items_written
array-is array = fold_out-ArrayParts Json Written (List Entry) (List Entry) (List ℕ × Json) (Option (List ℕ) → Json) (List Entry) items_step schema_step array_step object_parts_step property_step object_step subschemas_step array
    ∙ ap (λ o. (codes "items", o) ∷ (codes "minItems", count_json array.min) ∷ (codes "maxItems", count_json array.max) ∷ []) (items-map items_written array.items)

pub subschemas-are : (subschemas : Subschemas) → subschemas_written subschemas ≡
    (codes "allOf", schemas_json (option_map (map schema_written) subschemas.all_of))
    ∷ (codes "anyOf", schemas_json (option_map (map schema_written) subschemas.any_of))
    ∷ (codes "oneOf", schemas_json (option_map (map schema_written) subschemas.one_of))
    ∷ (codes "not", option_map untitled (option_map schema_written subschemas.not))
    ∷ []
unfolding subschemas_written schema_written
subschemas-are subschemas = fold_out-Subschemas Json Written (List Entry) (List Entry) (List ℕ × Json) (Option (List ℕ) → Json) (List Entry) items_step schema_step array_step object_parts_step property_step object_step subschemas_step subschemas
    ∙ rw (all_of-map schema_written subschemas.all_of, all_of-map schema_written subschemas.any_of, all_of-map schema_written subschemas.one_of, additional-map schema_written subschemas.not) refl

pub object_parts-are : (object : ObjectParts) → object_parts_written object ≡
    (codes "properties", unless_empty (map pair_member (map property_written (out-ObjectParts object).properties)))
    ∷ (codes "required", names_json (out-ObjectParts object).required)
    ∷ (codes "additionalProperties", option_map additional_json (option_map schema_written (out-ObjectParts object).additional))
    ∷ (codes "minProperties", count_json (out-ObjectParts object).min)
    ∷ (codes "maxProperties", count_json (out-ObjectParts object).max)
    ∷ []
unfolding object_parts_written schema_written property_written
object_parts-are object = fold_out-ObjectParts Json Written (List Entry) (List Entry) (List ℕ × Json) (Option (List ℕ) → Json) (List Entry) items_step schema_step array_step object_parts_step property_step object_step subschemas_step object
    ∙ ap (λ o.
    (codes "properties", unless_empty (map pair_member (map property_written (out-ObjectParts object).properties)))
    ∷ (codes "required", names_json (out-ObjectParts object).required)
    ∷ (codes "additionalProperties", option_map additional_json o)
    ∷ (codes "minProperties", count_json (out-ObjectParts object).min)
    ∷ (codes "maxProperties", count_json (out-ObjectParts object).max)
    ∷ []) (additional-map schema_written (out-ObjectParts object).additional)

pub object-is : (schema : SchemaObject) (given : Option (List ℕ)) → object_written schema given ≡ object_step (object_level schema) given
unfolding object_written array_written object_parts_written subschemas_written
object-is schema given = ap (λ f. f given) (fold_out-SchemaObject Json Written (List Entry) (List Entry) (List ℕ × Json) (Option (List ℕ) → Json) (List Entry) items_step schema_step array_step object_parts_step property_step object_step subschemas_step schema)
    ∙ rw (array-map array_written (out-SchemaObject schema).array, object-map object_parts_written (out-SchemaObject schema).object, subschemas-map subschemas_written (out-SchemaObject schema).subschemas) refl

by_reference : (o : Option (List ℕ)) (other : Json) (text : List ℕ) → o ≡ Some text → option_map_or reference_json o other ≡ reference_json text
by_reference o other text e = ap (λ o. option_map_or reference_json o other) e

pub reference-is : (schema : SchemaObject) (given : Option (List ℕ)) (text : List ℕ) → (out-SchemaObject schema).reference ≡ Some text → object_written schema given ≡ reference_json text
reference-is schema given text e = object-is schema given ∙ by_reference _ _ text e

without : (o : Option (List ℕ)) (other : Json) → ((text : List ℕ) → o ≡ Some text → ⊥) → option_map_or reference_json o other ≡ other
without None other h = refl
without (Some text) other h = absurd (h text refl)

pub parts-are : (schema : SchemaObject) (given : Option (List ℕ)) → ((text : List ℕ) → (out-SchemaObject schema).reference ≡ Some text → ⊥) → object_written schema given ≡
    object_of (annotations given (out-SchemaObject schema) ++ entries_behind (object_level schema))
parts-are schema given none = object-is schema given ∙ without _ _ none
