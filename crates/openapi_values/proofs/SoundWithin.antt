-- Where the contents of a schema are sound, those of the schemas in it are.
use Rattle.std.proofs.Common.{List, IfSome, subst, ◌∙◌}
use Rattle.std.specs.List.{AllByRecursion}
use Rattle.std.specs.Prelude.{⊤}
use Rattle.schema_values.specs.declared.schema.ArrayParts.{ArrayParts}
use Rattle.schema_values.specs.declared.schema.Items.{Items, Items-F, One, Tuple, out-Items}
use Rattle.schema_values.specs.declared.schema.Items.TheFolds.{every-Items, every-ArrayParts, every-ObjectParts, every-Property, every-SchemaObject, every-Subschemas, every_held-Items, every_held-Schema, every_held-ArrayParts, every_held-ObjectParts, every_held-Property, every_held-SchemaObject, every_held-Subschemas, every_here-ArrayParts, every_here-ObjectParts, every_here-SchemaObject}
use Rattle.schema_values.specs.declared.schema.Items.TheViews.{out-ArrayParts, outs-One, outs-Tuple, outs-Object}
use Rattle.schema_values.specs.declared.schema.ObjectParts.{ObjectParts, out-ObjectParts}
use Rattle.schema_values.specs.declared.schema.Property.{Property}
use Rattle.schema_values.specs.declared.schema.Schema.{Schema, Object}
use Rattle.schema_values.specs.declared.schema.SchemaObject.{SchemaObject, out-SchemaObject}
use Rattle.schema_values.specs.declared.schema.Subschemas.{Subschemas}
use Rattle.openapi_values.specs.SoundContents.{HasSoundContents, HasSoundCounts, HasSoundProperties, HasSoundValues}
use Rattle.openapi_values.proofs.SchemaInduction.{InArray, InItems, InObjectParts, InParts, InProperty, InSchema, InSubschemas, of_array, of_items, of_object, of_parts, of_schema, of_subschemas}

-- the same of each part of a schema
abbrev pub ItemsAreSound : Items → Type 0
ItemsAreSound = every-Items (λ items. ⊤) (λ schema. ⊤) HasSoundCounts HasSoundProperties (λ property. ⊤) HasSoundValues (λ subschemas. ⊤)

abbrev pub ArrayIsSound : ArrayParts → Type 0
ArrayIsSound = every-ArrayParts (λ items. ⊤) (λ schema. ⊤) HasSoundCounts HasSoundProperties (λ property. ⊤) HasSoundValues (λ subschemas. ⊤)

abbrev pub ObjectIsSound : ObjectParts → Type 0
ObjectIsSound = every-ObjectParts (λ items. ⊤) (λ schema. ⊤) HasSoundCounts HasSoundProperties (λ property. ⊤) HasSoundValues (λ subschemas. ⊤)

abbrev pub PropertyIsSound : Property → Type 0
PropertyIsSound = every-Property (λ items. ⊤) (λ schema. ⊤) HasSoundCounts HasSoundProperties (λ property. ⊤) HasSoundValues (λ subschemas. ⊤)

abbrev pub PartsAreSound : SchemaObject → Type 0
PartsAreSound = every-SchemaObject (λ items. ⊤) (λ schema. ⊤) HasSoundCounts HasSoundProperties (λ property. ⊤) HasSoundValues (λ subschemas. ⊤)

abbrev pub SubschemasAreSound : Subschemas → Type 0
SubschemasAreSound = every-Subschemas (λ items. ⊤) (λ schema. ⊤) HasSoundCounts HasSoundProperties (λ property. ⊤) HasSoundValues (λ subschemas. ⊤)

abbrev ItemsHold : Items-F Items Schema ArrayParts ObjectParts Property SchemaObject Subschemas → Type 0
ItemsHold = InItems ItemsAreSound HasSoundContents ArrayIsSound ObjectIsSound PropertyIsSound PartsAreSound SubschemasAreSound

items_hold : (x : Items) → ItemsAreSound x → ItemsHold (out-Items x)
items_hold x h =
    let (y, is) = every_held-Items (λ items. ⊤) (λ schema. ⊤) HasSoundCounts HasSoundProperties (λ property. ⊤) HasSoundValues (λ subschemas. ⊤) x h in
    subst ItemsHold is (of_items ItemsAreSound HasSoundContents ArrayIsSound ObjectIsSound PropertyIsSound PartsAreSound SubschemasAreSound y)

pub one_within : (schema : Schema) → ItemsAreSound (One schema) → HasSoundContents schema
one_within schema h = subst ItemsHold (outs-One schema) (items_hold (One schema) h)

pub tuple_within : (schemas : List Schema) → ItemsAreSound (Tuple schemas) → AllByRecursion HasSoundContents schemas
tuple_within schemas h = subst ItemsHold (outs-Tuple schemas) (items_hold (Tuple schemas) h)

pub object_within : (object : SchemaObject) → HasSoundContents (Object object) → PartsAreSound object
object_within object h =
    let (y, is) = every_held-Schema (λ items. ⊤) (λ schema. ⊤) HasSoundCounts HasSoundProperties (λ property. ⊤) HasSoundValues (λ subschemas. ⊤) (Object object) h in
    subst (InSchema ItemsAreSound HasSoundContents ArrayIsSound ObjectIsSound PropertyIsSound PartsAreSound SubschemasAreSound) (is ∙ outs-Object object) (of_schema ItemsAreSound HasSoundContents ArrayIsSound ObjectIsSound PropertyIsSound PartsAreSound SubschemasAreSound y)

pub in_array : (array : ArrayParts) → ArrayIsSound array → IfSome array.items ItemsAreSound
in_array array h =
    let (y, is) = every_held-ArrayParts (λ items. ⊤) (λ schema. ⊤) HasSoundCounts HasSoundProperties (λ property. ⊤) HasSoundValues (λ subschemas. ⊤) array h in
    subst (InArray ItemsAreSound HasSoundContents ArrayIsSound ObjectIsSound PropertyIsSound PartsAreSound SubschemasAreSound) is (of_array ItemsAreSound HasSoundContents ArrayIsSound ObjectIsSound PropertyIsSound PartsAreSound SubschemasAreSound y)

pub in_object : (object : ObjectParts) → ObjectIsSound object → AllByRecursion PropertyIsSound (out-ObjectParts object).properties × IfSome (out-ObjectParts object).additional HasSoundContents
in_object object h =
    let (y, is) = every_held-ObjectParts (λ items. ⊤) (λ schema. ⊤) HasSoundCounts HasSoundProperties (λ property. ⊤) HasSoundValues (λ subschemas. ⊤) object h in
    subst (InObjectParts ItemsAreSound HasSoundContents ArrayIsSound ObjectIsSound PropertyIsSound PartsAreSound SubschemasAreSound) is (of_object ItemsAreSound HasSoundContents ArrayIsSound ObjectIsSound PropertyIsSound PartsAreSound SubschemasAreSound y)

pub in_property : (property : Property) → PropertyIsSound property → HasSoundContents property.schema
in_property property h =
    let (y, is) = every_held-Property (λ items. ⊤) (λ schema. ⊤) HasSoundCounts HasSoundProperties (λ property. ⊤) HasSoundValues (λ subschemas. ⊤) property h in
    subst (InProperty ItemsAreSound HasSoundContents ArrayIsSound ObjectIsSound PropertyIsSound PartsAreSound SubschemasAreSound) is y.schema.1

pub in_parts : (object : SchemaObject) → PartsAreSound object → IfSome (out-SchemaObject object).array ArrayIsSound × IfSome (out-SchemaObject object).object ObjectIsSound × IfSome (out-SchemaObject object).subschemas SubschemasAreSound
in_parts object h =
    let (y, is) = every_held-SchemaObject (λ items. ⊤) (λ schema. ⊤) HasSoundCounts HasSoundProperties (λ property. ⊤) HasSoundValues (λ subschemas. ⊤) object h in
    subst (InParts ItemsAreSound HasSoundContents ArrayIsSound ObjectIsSound PropertyIsSound PartsAreSound SubschemasAreSound) is (of_parts ItemsAreSound HasSoundContents ArrayIsSound ObjectIsSound PropertyIsSound PartsAreSound SubschemasAreSound y)

pub in_subschemas : (u : Subschemas) → SubschemasAreSound u → IfSome u.all_of (AllByRecursion HasSoundContents) × IfSome u.any_of (AllByRecursion HasSoundContents) × IfSome u.one_of (AllByRecursion HasSoundContents) × IfSome u.not HasSoundContents
in_subschemas u h =
    let (y, is) = every_held-Subschemas (λ items. ⊤) (λ schema. ⊤) HasSoundCounts HasSoundProperties (λ property. ⊤) HasSoundValues (λ subschemas. ⊤) u h in
    subst (InSubschemas ItemsAreSound HasSoundContents ArrayIsSound ObjectIsSound PropertyIsSound PartsAreSound SubschemasAreSound) is (of_subschemas ItemsAreSound HasSoundContents ArrayIsSound ObjectIsSound PropertyIsSound PartsAreSound SubschemasAreSound y)

-- ---- what holds of the parts themselves

pub counts_of : (array : ArrayParts) → ArrayIsSound array → HasSoundCounts (out-ArrayParts array)
counts_of = every_here-ArrayParts (λ items. ⊤) (λ schema. ⊤) HasSoundCounts HasSoundProperties (λ property. ⊤) HasSoundValues (λ subschemas. ⊤)

pub properties_of : (object : ObjectParts) → ObjectIsSound object → HasSoundProperties (out-ObjectParts object)
properties_of = every_here-ObjectParts (λ items. ⊤) (λ schema. ⊤) HasSoundCounts HasSoundProperties (λ property. ⊤) HasSoundValues (λ subschemas. ⊤)

pub values_of : (object : SchemaObject) → PartsAreSound object → HasSoundValues (out-SchemaObject object)
values_of = every_here-SchemaObject (λ items. ⊤) (λ schema. ⊤) HasSoundCounts HasSoundProperties (λ property. ⊤) HasSoundValues (λ subschemas. ⊤)
