-- What holds of each schema, since it holds of one where it holds of those that stand in it.
use Rattle.std.proofs.Common.{Bool, List, [], ◌∷◌, map, Option, Some, None, option_map, IfSome, sym, subst}
use Rattle.std.specs.List.{AllByRecursion}
use Rattle.std.specs.Prelude.{⊤}
use Rattle.schema_values.specs.declared.schema.ArrayParts.{ArrayParts, ArrayParts-F}
use Rattle.schema_values.specs.declared.schema.Items.{Items, Items-F, One, Tuple}
use Rattle.schema_values.specs.declared.schema.Items.TheFolds.{ind-Schema, map-Items, map-Schema, map-ArrayParts, map-ObjectParts, map-Property, map-SchemaObject, map-Subschemas}
use Rattle.schema_values.specs.declared.schema.Items.TheOpen as open_types
use Rattle.schema_values.specs.declared.schema.Items.TheShapes.{former-Subschemas-all_of}
use Rattle.schema_values.specs.declared.schema.Items.TheViews.{out-ArrayParts, out-Property, out-Subschemas, roll-ArrayParts, roll-Property, roll-Subschemas, out-roll-ArrayParts, out-roll-Property, out-roll-Subschemas, roll-Items, roll-Schema, roll-ObjectParts, roll-SchemaObject, out-roll-ObjectParts, out-roll-SchemaObject, rolls-One, rolls-Tuple, rolls-Bool, rolls-Object}
use Rattle.schema_values.specs.declared.schema.ObjectParts.{ObjectParts, ObjectParts-F, out-ObjectParts}
use Rattle.schema_values.specs.declared.schema.Property.{Property, Property-F}
use Rattle.schema_values.specs.declared.schema.Schema.{Schema, Schema-F, Bool as Truth, Object}
use Rattle.schema_values.specs.declared.schema.SchemaObject.{SchemaObject, SchemaObject-F, out-SchemaObject}
use Rattle.schema_values.specs.declared.schema.Subschemas.{Subschemas, Subschemas-F}
use Rattle.openapi_values.specs.SoundContents.{OneLevel}
use Rattle.openapi_values.proofs.PartMaps.{items-map, additional-map, array-map, object-map, subschemas-map, all_of-map}

-- what holds of each of a list of pairs of which the second says that it does
each_holds : {X : Type 0} (P : X → Type 0) (es : List ((x : X) × P x)) → AllByRecursion P (map (λ e. e.0) es)
each_holds P [] = tt
each_holds P (e ∷ es) = (e.1, each_holds P es)

some_holds : {X : Type 0} (P : X → Type 0) (o : Option ((x : X) × P x)) → IfSome (option_map (λ e. e.0) o) P
some_holds P None = tt
some_holds P (Some e) = e.1

lists_hold : {X : Type 0} (P : X → Type 0) (o : Option (List ((x : X) × P x))) → IfSome (option_map (map (λ e. e.0)) o) (AllByRecursion P)
lists_hold P None = tt
lists_hold P (Some es) = each_holds P es

module _ (I : Items → Type 0) (S : Schema → Type 0) (A : ArrayParts → Type 0) (O : ObjectParts → Type 0) (P : Property → Type 0) (B : SchemaObject → Type 0) (U : Subschemas → Type 0) where
  -- it holds of the schemas in one level
  abbrev pub InItems : OneLevel Items-F → Type 0
  InItems (open_types.One schema) = S schema
  InItems (open_types.Tuple schemas) = AllByRecursion S schemas

  abbrev pub InSchema : OneLevel Schema-F → Type 0
  InSchema (open_types.Bool truth) = ⊤
  InSchema (open_types.Object object) = B object

  abbrev pub InArray : OneLevel ArrayParts-F → Type 0
  InArray array = IfSome array.items I

  abbrev pub InObjectParts : OneLevel ObjectParts-F → Type 0
  InObjectParts object = AllByRecursion P object.properties × IfSome object.additional S

  abbrev pub InProperty : OneLevel Property-F → Type 0
  InProperty property = S property.schema

  abbrev pub InParts : OneLevel SchemaObject-F → Type 0
  InParts parts = IfSome parts.array A × IfSome parts.object O × IfSome parts.subschemas U

  abbrev pub InSubschemas : OneLevel Subschemas-F → Type 0
  InSubschemas u = IfSome u.all_of (AllByRecursion S) × IfSome u.any_of (AllByRecursion S) × IfSome u.one_of (AllByRecursion S) × IfSome u.not S

  -- a smaller part, and that it holds of it
  abbrev SomeItems : Type 0
  SomeItems = (x : Items) × I x

  abbrev SomeSchema : Type 0
  SomeSchema = (x : Schema) × S x

  abbrev SomeArray : Type 0
  SomeArray = (x : ArrayParts) × A x

  abbrev SomeObject : Type 0
  SomeObject = (x : ObjectParts) × O x

  abbrev SomeProperty : Type 0
  SomeProperty = (x : Property) × P x

  abbrev SomeParts : Type 0
  SomeParts = (x : SchemaObject) × B x

  abbrev SomeSubschemas : Type 0
  SomeSubschemas = (x : Subschemas) × U x

  -- one level of such parts
  abbrev Known : ((A B C D E F G : Type 0) → Type 0) → Type 0
  Known F = F SomeItems SomeSchema SomeArray SomeObject SomeProperty SomeParts SomeSubschemas

  abbrev plain_items : Known Items-F → OneLevel Items-F
  plain_items = map-Items SomeItems SomeSchema SomeArray SomeObject SomeProperty SomeParts SomeSubschemas Items Schema ArrayParts ObjectParts Property SchemaObject Subschemas (λ e. e.0) (λ e. e.0) (λ e. e.0) (λ e. e.0) (λ e. e.0) (λ e. e.0) (λ e. e.0)

  abbrev plain_schema : Known Schema-F → OneLevel Schema-F
  plain_schema = map-Schema SomeItems SomeSchema SomeArray SomeObject SomeProperty SomeParts SomeSubschemas Items Schema ArrayParts ObjectParts Property SchemaObject Subschemas (λ e. e.0) (λ e. e.0) (λ e. e.0) (λ e. e.0) (λ e. e.0) (λ e. e.0) (λ e. e.0)

  abbrev plain_array : Known ArrayParts-F → OneLevel ArrayParts-F
  plain_array = map-ArrayParts SomeItems SomeSchema SomeArray SomeObject SomeProperty SomeParts SomeSubschemas Items Schema ArrayParts ObjectParts Property SchemaObject Subschemas (λ e. e.0) (λ e. e.0) (λ e. e.0) (λ e. e.0) (λ e. e.0) (λ e. e.0) (λ e. e.0)

  abbrev plain_object : Known ObjectParts-F → OneLevel ObjectParts-F
  plain_object = map-ObjectParts SomeItems SomeSchema SomeArray SomeObject SomeProperty SomeParts SomeSubschemas Items Schema ArrayParts ObjectParts Property SchemaObject Subschemas (λ e. e.0) (λ e. e.0) (λ e. e.0) (λ e. e.0) (λ e. e.0) (λ e. e.0) (λ e. e.0)

  abbrev plain_property : Known Property-F → OneLevel Property-F
  plain_property = map-Property SomeItems SomeSchema SomeArray SomeObject SomeProperty SomeParts SomeSubschemas Items Schema ArrayParts ObjectParts Property SchemaObject Subschemas (λ e. e.0) (λ e. e.0) (λ e. e.0) (λ e. e.0) (λ e. e.0) (λ e. e.0) (λ e. e.0)

  abbrev plain_parts : Known SchemaObject-F → OneLevel SchemaObject-F
  plain_parts = map-SchemaObject SomeItems SomeSchema SomeArray SomeObject SomeProperty SomeParts SomeSubschemas Items Schema ArrayParts ObjectParts Property SchemaObject Subschemas (λ e. e.0) (λ e. e.0) (λ e. e.0) (λ e. e.0) (λ e. e.0) (λ e. e.0) (λ e. e.0)

  abbrev plain_subschemas : Known Subschemas-F → OneLevel Subschemas-F
  plain_subschemas = map-Subschemas SomeItems SomeSchema SomeArray SomeObject SomeProperty SomeParts SomeSubschemas Items Schema ArrayParts ObjectParts Property SchemaObject Subschemas (λ e. e.0) (λ e. e.0) (λ e. e.0) (λ e. e.0) (λ e. e.0) (λ e. e.0) (λ e. e.0)

  pub of_items : (y : Known Items-F) → InItems (plain_items y)
  of_items (open_types.One e) = e.1
  of_items (open_types.Tuple es) = each_holds S es

  pub of_schema : (y : Known Schema-F) → InSchema (plain_schema y)
  of_schema (open_types.Bool truth) = tt
  of_schema (open_types.Object e) = e.1

  pub of_array : (y : Known ArrayParts-F) → InArray (plain_array y)
  of_array y = subst (λ o. IfSome o I) (sym (items-map (λ e. e.0) y.items)) (some_holds I y.items)

  pub of_object : (y : Known ObjectParts-F) → InObjectParts (plain_object y)
  of_object y = (each_holds P y.properties, subst (λ o. IfSome o S) (sym (additional-map (λ e. e.0) y.additional)) (some_holds S y.additional))

  pub of_parts : (y : Known SchemaObject-F) → InParts (plain_parts y)
  of_parts y = (
    subst (λ o. IfSome o A) (sym (array-map (λ e. e.0) y.array)) (some_holds A y.array),
    subst (λ o. IfSome o O) (sym (object-map (λ e. e.0) y.object)) (some_holds O y.object),
    subst (λ o. IfSome o U) (sym (subschemas-map (λ e. e.0) y.subschemas)) (some_holds U y.subschemas),
  )

  some_hold : (o : Option (List SomeSchema)) → IfSome (former-Subschemas-all_of.map SomeSchema Schema (λ e. e.0) o) (AllByRecursion S)
  some_hold o = subst (λ o. IfSome o (AllByRecursion S)) (sym (all_of-map (λ e. e.0) o)) (lists_hold S o)

  pub of_subschemas : (y : Known Subschemas-F) → InSubschemas (plain_subschemas y)
  of_subschemas y = (some_hold y.all_of, some_hold y.any_of, some_hold y.one_of, subst (λ o. IfSome o S) (sym (additional-map (λ e. e.0) y.not)) (some_holds S y.not))

  module _ (one : (schema : Schema) → S schema → I (One schema)) (tuple : (schemas : List Schema) → AllByRecursion S schemas → I (Tuple schemas)) (truth : (b : Bool) → S (Truth b)) (object : (o : SchemaObject) → B o → S (Object o))
      (array : (a : ArrayParts) → InArray (out-ArrayParts a) → A a) (parts : (o : ObjectParts) → InObjectParts (out-ObjectParts o) → O o) (property : (p : Property) → InProperty (out-Property p) → P p) (own : (o : SchemaObject) → InParts (out-SchemaObject o) → B o)
      (subschemas : (u : Subschemas) → InSubschemas (out-Subschemas u) → U u) where
    rolled_items : (y : Known Items-F) → I (roll-Items (plain_items y))
    rolled_items (open_types.One e) = subst I (sym (rolls-One e.0)) (one e.0 e.1)
    rolled_items (open_types.Tuple es) = subst I (sym (rolls-Tuple (map (λ e. e.0) es))) (tuple (map (λ e. e.0) es) (each_holds S es))

    rolled_schema : (y : Known Schema-F) → S (roll-Schema (plain_schema y))
    rolled_schema (open_types.Bool b) = subst S (sym (rolls-Bool b)) (truth b)
    rolled_schema (open_types.Object e) = subst S (sym (rolls-Object e.0)) (object e.0 e.1)

    rolled_array : (y : Known ArrayParts-F) → A (roll-ArrayParts (plain_array y))
    rolled_array y = array (roll-ArrayParts (plain_array y)) (subst InArray (sym (out-roll-ArrayParts (plain_array y))) (of_array y))

    rolled_property : (y : Known Property-F) → P (roll-Property (plain_property y))
    rolled_property y = property (roll-Property (plain_property y)) (subst InProperty (sym (out-roll-Property (plain_property y))) y.schema.1)

    rolled_subschemas : (y : Known Subschemas-F) → U (roll-Subschemas (plain_subschemas y))
    rolled_subschemas y = subschemas (roll-Subschemas (plain_subschemas y)) (subst InSubschemas (sym (out-roll-Subschemas (plain_subschemas y))) (of_subschemas y))

    rolled_object : (y : Known ObjectParts-F) → O (roll-ObjectParts (plain_object y))
    rolled_object y = parts (roll-ObjectParts (plain_object y)) (subst InObjectParts (sym (out-roll-ObjectParts (plain_object y))) (of_object y))

    rolled_parts : (y : Known SchemaObject-F) → B (roll-SchemaObject (plain_parts y))
    rolled_parts y = own (roll-SchemaObject (plain_parts y)) (subst InParts (sym (out-roll-SchemaObject (plain_parts y))) (of_parts y))

    pub by_parts : (s : Schema) → S s
    by_parts = ind-Schema I S A O P B U
        (λ x y is. subst (λ (z : OneLevel Items-F). I (roll-Items z)) is (rolled_items y))
        (λ x y is. subst (λ (z : OneLevel Schema-F). S (roll-Schema z)) is (rolled_schema y))
        (λ x y is. subst (λ (z : OneLevel ArrayParts-F). A (roll-ArrayParts z)) is (rolled_array y))
        (λ x y is. subst (λ (z : OneLevel ObjectParts-F). O (roll-ObjectParts z)) is (rolled_object y))
        (λ x y is. subst (λ (z : OneLevel Property-F). P (roll-Property z)) is (rolled_property y))
        (λ x y is. subst (λ (z : OneLevel SchemaObject-F). B (roll-SchemaObject z)) is (rolled_parts y))
        (λ x y is. subst (λ (z : OneLevel Subschemas-F). U (roll-Subschemas z)) is (rolled_subschemas y))
