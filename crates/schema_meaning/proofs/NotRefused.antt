-- What is known of a schema that is not refused, from one level.
use Rattle.std.proofs.Common.{◌≡◌, ℕ, Bool, true, false, List, [], ◌∷◌, Option, Some, None, option_map, option_and_then, unwrap_or, cond, is_some, ◌&&◌, ◌||◌, refl, sym, ◌∙◌, ap}
use Rattle.std.specs.List.{list_all, AllByRecursion}
use Rattle.std.proofs.lemmas.Bool.{and_parts}
use Rattle.std.specs.Option.{option_or, option_map_or}
use Rattle.schema_values.specs.declared.json_value.Json.{Json, out-Json}
use Rattle.schema_values.specs.declared.json_value.Json.TheOpen.{Json-F}
use Rattle.schema_values.specs.declared.json_value.Member.{Member}
use Rattle.schema_values.specs.declared.schema.ArrayParts.{ArrayParts}
use Rattle.schema_values.specs.declared.schema.InstanceType.TheVariants.{Null, Object, Array}
use Rattle.schema_values.specs.declared.schema.InstanceTypes.{InstanceTypes}
use Rattle.schema_values.specs.declared.schema.InstanceTypes.TheVariants.{Single}
use Rattle.schema_values.specs.declared.schema.Items.{Items, out-Items}
use Rattle.schema_values.specs.declared.schema.Items.TheOpen.{Items-F, Schema-F}
use Rattle.schema_values.specs.declared.schema.NumberBounds.{NumberBounds}
use Rattle.schema_values.specs.declared.schema.Schema.{Schema, out-Schema}
use Rattle.schema_values.specs.declared.schema.SchemaObject.{SchemaObject, SchemaObject-F, out-SchemaObject}
use Rattle.schema_values.specs.Parts.{Parts}
use Rattle.openapi_values.specs.Refusal.{Within, Level, object_step, is_level_of, is_value_of, values_refusal, types_refusal, own_items_refusal, bounds_refusal, items_of, own_refusal, inner_refusal, refusal_of, items_within, array_within, object_parts_refusal, subschemas_inner}
use Rattle.openapi_values.specs.declared.j2oas.J2oasError.TheVariants.{TupleArray, BadEnumValue, BadBounds}
use Rattle.openapi_values.proofs.CallerLemmas.{array-refusal, object-refusal, parts-refusal, tuple-refusal}
use Rattle.openapi_values.specs.SchemaJson.{without_values}
use Rattle.schema_meaning.specs.Forms.{ItemsLevel}
use Rattle.schema_meaning.proofs.WrittenLevels.{is_object, are_tuple}

-- parts in which each part with schemas stands as its refusal
abbrev level_of : Parts → Level SchemaObject-F
level_of p = record {
  title = p.title;
  description = p.description;
  default = p.default;
  deprecated = p.deprecated;
  read_only = p.read_only;
  write_only = p.write_only;
  nullable = p.nullable;
  instance_type = p.instance_type;
  format = p.format;
  enum_values = p.enum_values;
  const_value = p.const_value;
  subschemas = option_map subschemas_inner p.subschemas;
  number = p.number;
  string = p.string;
  array = option_map array_within p.array;
  object = option_map object_parts_refusal p.object;
  reference = p.reference;
  extensions = p.extensions;
}

by_parts-is : (schema : Schema) (object : SchemaObject) → out-Schema schema ≡ Schema-F.Object object → refusal_of schema ≡ object_step (level_of (out-SchemaObject object))
by_parts-is schema object e = ap refusal_of (is_object schema object e) ∙ object-refusal object ∙ parts-refusal object

by_place-is : (items : Items) (schemas : List Schema) → out-Items items ≡ Items-F.Tuple schemas → (items_within items).by_place ≡ true
by_place-is items schemas e = ap (λ (i : Items). (items_within i).by_place) (are_tuple items schemas e) ∙ ap (λ (w : Within). w.by_place) (tuple-refusal schemas)

first_none : {A : Type 0} (o p : Option A) → option_or o p ≡ None → (o ≡ None) × (p ≡ None)
first_none None p h = (refl, h)
first_none (Some x) p h = absurd (cc h)

-- the schema's own case, where it is no reference
pub record Unrefused (p : Parts) : Type 0 where
  pub one_type : types_refusal p.instance_type ≡ None
  pub has_items : own_items_refusal p.instance_type (items_of (level_of p)) ≡ None
  pub values_right : values_refusal p.instance_type (unwrap_or p.enum_values []) ≡ None
  pub bounds_right : bounds_refusal p.number ≡ None

own_none : (p : Parts) → p.reference ≡ None → object_step (level_of p) ≡ None → own_refusal (level_of p) ≡ None
own_none p none h = (first_none (own_refusal (level_of p)) (inner_refusal (level_of p)) (by_reference p.reference none h)).0
  where
    by_reference : (o : Option (List ℕ)) → o ≡ None → option_map_or (λ reference. None) o (option_or (own_refusal (level_of p)) (inner_refusal (level_of p))) ≡ None → option_or (own_refusal (level_of p)) (inner_refusal (level_of p)) ≡ None
    by_reference None e h = h
    by_reference (Some text) e h = absurd (cc e)

pub unrefused : (schema : Schema) (object : SchemaObject) → out-Schema schema ≡ Schema-F.Object object → (out-SchemaObject object).reference ≡ None → refusal_of schema ≡ None → Unrefused (out-SchemaObject object)
unrefused schema object e none h =
    let own = own_none (out-SchemaObject object) none (sym (by_parts-is schema object e) ∙ h) in
    let (types, rest) = first_none _ _ own in
    let (items, rest) = first_none _ _ rest in
    let (among, rest) = first_none _ _ rest in
    let (alone, rest) = first_none _ _ rest in
    let (values, rest) = first_none _ _ rest in
    let (bounds, rest) = first_none _ _ rest in
    record { one_type = types; has_items = items; values_right = values; bounds_right = bounds }

-- the one schema of the items of an array
pub record HasOne (p : Parts) : Type 0 where
  pub array : ArrayParts
  pub is : p.array ≡ Some array
  pub items : Items
  pub stand : array.items ≡ Some items
  pub schema : Schema
  pub one : out-Items items ≡ Items-F.One schema

pub has_one : (p : Parts) → p.instance_type ≡ Some (Single Array) → own_items_refusal p.instance_type (items_of (level_of p)) ≡ None → HasOne p
has_one p e h = by_array p.array refl (ap (λ (t : Option InstanceTypes). own_items_refusal t (items_of (level_of p))) (sym e) ∙ h)
  where
    by_items : (a : ArrayParts) (i : Items) (z : ItemsLevel) → p.array ≡ Some a → a.items ≡ Some i → out-Items i ≡ z → own_items_refusal (Some (Single Array)) (Some (items_within i)) ≡ None → HasOne p
    by_items a i (Items-F.One s) f g k h = record { array = a; is = f; items = i; stand = g; schema = s; one = k }
    by_items a i (Items-F.Tuple ss) f g k h = absurd (let w : own_items_refusal (Some (Single Array)) (Some (items_within i)) ≡ Some TupleArray = ap (λ (b : Bool). cond b (Some TupleArray) None) (by_place-is i ss k) in cc (w, h))

    by_option : (a : ArrayParts) (o : Option Items) → p.array ≡ Some a → a.items ≡ o → own_items_refusal (Some (Single Array)) (option_map items_within o) ≡ None → HasOne p
    by_option a None f g h = absurd (cc h)
    by_option a (Some i) f g h = by_items a i (out-Items i) f g refl h

    by_array : (o : Option ArrayParts) → p.array ≡ o → own_items_refusal (Some (Single Array)) (option_and_then (λ items. items) (option_map array_within o)) ≡ None → HasOne p
    by_array None f h = absurd (cc h)
    by_array (Some a) f h = by_option a a.items f refl (ap (λ (o : Option Within). own_items_refusal (Some (Single Array)) o) (sym (array-refusal a)) ∙ h)

-- ---- what its values and its bounds are

-- null, or nothing but null
abbrev pub AreNull : List Json → Type 0
AreNull = AllByRecursion (λ json. out-Json json ≡ Json-F.Null)

null_alone : (json : Json) → is_value_of Null json ≡ true → out-Json json ≡ Json-F.Null
null_alone json h = by_level (out-Json json) refl h
  where
    by_level : (x : Json-F Json Member) → out-Json json ≡ x → is_level_of Null x ≡ true → out-Json json ≡ Json-F.Null
    by_level Json-F.Null e h = e
    by_level (Json-F.Bool b) e h = absurd (cc h)
    by_level (Json-F.Int n) e h = absurd (cc h)
    by_level (Json-F.Text t) e h = absurd (cc h)
    by_level (Json-F.List js) e h = absurd (cc h)
    by_level (Json-F.Object ms) e h = absurd (cc h)

all_null : (vs : List Json) → list_all (is_value_of Null) vs ≡ true → AreNull vs
all_null [] h = tt
all_null (v ∷ vs) h = let (here, later) = and_parts (is_value_of Null v) (list_all (is_value_of Null) vs) h in (null_alone v here, all_null vs later)

-- the values of the type of null are null
pub nulls_beside : (v : Json) (vs : List Json) → values_refusal (Some (Single Null)) (v ∷ vs) ≡ None → AreNull (v ∷ vs)
nulls_beside v vs h = all_null (v ∷ vs) (by_test (list_all (is_value_of Null) (v ∷ vs)) h)
  where
    by_test : (b : Bool) → cond b None (Some BadEnumValue) ≡ None → b ≡ true
    by_test true h = refl
    by_test false h = absurd (cc h)

-- a type, or none, beside which there are no values
pub data HasNoValues : Option InstanceTypes → Type 0 where
  without_type : HasNoValues None
  of_array : HasNoValues (Some (Single Array))
  of_object : HasNoValues (Some (Single Object))

no_more_values : (o : Option (List Json)) → without_values o ≡ false → ((v : Json) (vs : List Json) → o ≡ Some (v ∷ vs) → ⊥) → o ≡ None
no_more_values None e h = refl
no_more_values (Some []) e h = absurd (cc e)
no_more_values (Some (v ∷ vs)) e h = absurd (h v vs refl)

pub no_values : (types : Option InstanceTypes) (o : Option (List Json)) → HasNoValues types → without_values o ≡ false → values_refusal types (unwrap_or o []) ≡ None → o ≡ None
no_values types o without_type e h = no_more_values o e (λ v vs f. let w : values_refusal None (v ∷ vs) ≡ None = ap (λ (o : Option (List Json)). values_refusal None (unwrap_or o [])) (sym f) ∙ h in cc w)
no_values types o of_array e h = no_more_values o e (λ v vs f. let w : values_refusal (Some (Single Array)) (v ∷ vs) ≡ None = ap (λ (o : Option (List Json)). values_refusal (Some (Single Array)) (unwrap_or o [])) (sym f) ∙ h in cc w)
no_values types o of_object e h = no_more_values o e (λ v vs f. let w : values_refusal (Some (Single Object)) (v ∷ vs) ≡ None = ap (λ (o : Option (List Json)). values_refusal (Some (Single Object)) (unwrap_or o [])) (sym f) ∙ h in cc w)

-- a bound stands in one form
pub one_form : (bounds : NumberBounds) → bounds_refusal (Some bounds) ≡ None → ((is_some bounds.minimum && is_some bounds.exclusive_minimum) ≡ false) × ((is_some bounds.maximum && is_some bounds.exclusive_maximum) ≡ false)
one_form b h = by_test (is_some b.minimum && is_some b.exclusive_minimum) (is_some b.maximum && is_some b.exclusive_maximum) h
  where
    by_test : (low high : Bool) → cond (low || high) (Some BadBounds) None ≡ None → (low ≡ false) × (high ≡ false)
    by_test true high h = absurd (cc h)
    by_test false true h = absurd (cc h)
    by_test false false h = (refl, refl)
