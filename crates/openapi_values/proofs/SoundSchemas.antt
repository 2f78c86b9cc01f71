-- A schema of sound contents is written as sound JSON.
use Rattle.std.proofs.Common.{◌≡◌, ℕ, Bool, List, [], ◌∷◌, map, Option, Some, None, option_map, codes, IfSome, sym, ap, subst, refl}
use Rattle.std.specs.List.{AllByRecursion}
use Rattle.std.specs.Option.{option_map_or}
use Rattle.schema_values.specs.declared.json_value.Json.{Json, Bool as TruthJson, Text}
use Rattle.schema_values.specs.declared.schema.ArrayParts.{ArrayParts}
use Rattle.schema_values.specs.declared.schema.Items.{Items, One, Tuple}
use Rattle.schema_values.specs.declared.schema.ObjectParts.{ObjectParts, out-ObjectParts}
use Rattle.schema_values.specs.declared.schema.Property.{Property}
use Rattle.schema_values.specs.declared.schema.Schema.{Schema, Bool as Truth, Object}
use Rattle.schema_values.specs.declared.schema.SchemaObject.{SchemaObject, out-SchemaObject}
use Rattle.schema_values.specs.declared.schema.Subschemas.{Subschemas}
use Rattle.schema_values.specs.Member.{name_of}
use Rattle.schema_values.specs.Sound.{IsSound, AreDistinct}
use Rattle.schema_values.specs.SoundMembers.{HasSoundValue}
use Rattle.schema_values.proofs.CallerLemmas.{IsSound-List}
use Rattle.openapi_values.specs.Objects.{members_of, pair_member, unless_empty}
use Rattle.openapi_values.specs.SchemaJson.{Written, additional_json, array_written, count_json, items_written, names_json, object_level, object_parts_written, object_written, property_written, schema_json, schema_written, schemas_json, subschemas_written, untitled}
use Rattle.openapi_values.specs.SoundContents.{HasSoundContents}
use Rattle.openapi_values.proofs.Keyed.{IsKeyed}
use Rattle.openapi_values.proofs.KeyedEntries.{Joins, entries_before}
use Rattle.openapi_values.proofs.SchemaInduction.{by_parts}
use Rattle.openapi_values.proofs.SchemaLevels.{array-is, item-is, object-is, object-under, object_parts-are, property-is, subschemas-are, truth-is, tuple-is}
use Rattle.openapi_values.proofs.SoundBehind.{array_names, count_where, level_sound, object_names, subschema_names, truth_sound}
use Rattle.openapi_values.proofs.SoundObjects.{IsSoundWhere, each_text, entries_keyed, list_where, members_where}
use Rattle.openapi_values.proofs.SoundWithin.{ArrayIsSound, ItemsAreSound, ObjectIsSound, PartsAreSound, PropertyIsSound, SubschemasAreSound, counts_of, in_array, in_object, in_parts, in_property, in_subschemas, object_within, one_within, properties_of, tuple_within, values_of}

-- what is written is sound, under any title
abbrev IsWrittenSoundly : Schema → Type 0
IsWrittenSoundly schema = (title : Option (List ℕ)) → IsSound (schema_json title schema)

-- ---- what follows for each follows for all

each_follows : {X : Type 0} (P Q : X → Type 0) (xs : List X) → AllByRecursion (λ x. P x → Q x) xs → AllByRecursion P xs → AllByRecursion Q xs
each_follows P Q [] h k = tt
each_follows P Q (x ∷ xs) h k = (h.0 k.0, each_follows P Q xs h.1 k.1)

some_follows : {X : Type 0} (P Q : X → Type 0) (o : Option X) → IfSome o (λ x. P x → Q x) → IfSome o P → IfSome o Q
some_follows P Q None h k = tt
some_follows P Q (Some x) h k = h k

lists_follow : {X : Type 0} (P Q : X → Type 0) (o : Option (List X)) → IfSome o (AllByRecursion (λ x. P x → Q x)) → IfSome o (AllByRecursion P) → IfSome o (AllByRecursion Q)
lists_follow P Q None h k = tt
lists_follow P Q (Some xs) h k = each_follows P Q xs h k

mapped : {X Y : Type 0} (f : X → Y) (P : Y → Type 0) (o : Option X) → IfSome o (λ x. P (f x)) → IfSome (option_map f o) P
mapped f P None h = tt
mapped f P (Some x) h = h

-- ---- written schemas

untitled_sound : (schemas : List Schema) → AllByRecursion IsWrittenSoundly schemas → AllByRecursion IsSound (map untitled (map schema_written schemas))
untitled_sound [] h = tt
untitled_sound (schema ∷ schemas) h = (h.0 None, untitled_sound schemas h.1)

schemas_where : (o : Option (List Schema)) → IfSome o (AllByRecursion IsWrittenSoundly) → IsSoundWhere (schemas_json (option_map (map schema_written) o))
schemas_where None h = tt
schemas_where (Some schemas) h = (IsSound-List (map untitled (map schema_written schemas))).1 (untitled_sound schemas h)

untitled_where : (o : Option Schema) → IfSome o IsWrittenSoundly → IsSoundWhere (option_map untitled (option_map schema_written o))
untitled_where None h = tt
untitled_where (Some schema) h = h None

additional_where : (o : Option Schema) → IfSome o IsWrittenSoundly → IsSoundWhere (option_map additional_json (option_map schema_written o))
additional_where None h = tt
additional_where (Some schema) h = by_truth (schema_written schema).truth
  where
    by_truth : (truth : Option Bool) → IsSound (option_map_or TruthJson truth (untitled (schema_written schema)))
    by_truth None = h None
    by_truth (Some truth) = tt

property_names : (ps : List Property) → map name_of (map pair_member (map property_written ps)) ≡ map (λ p. p.name) ps
property_names [] = refl
property_names (p ∷ ps) = λ i. (property-is p i).0 ∷ property_names ps i

properties_sound : (ps : List Property) → AllByRecursion (λ p. IsSound (property_written p).1) ps → AllByRecursion HasSoundValue (map pair_member (map property_written ps))
properties_sound [] h = tt
properties_sound (p ∷ ps) h = (h.0, properties_sound ps h.1)

-- ---- one level of each type, where it holds of the smaller ones

abbrev ItemsFollow : Items → Type 0
ItemsFollow items = ItemsAreSound items → IsSound (items_written items)

abbrev SchemaFollows : Schema → Type 0
SchemaFollows schema = HasSoundContents schema → IsWrittenSoundly schema

abbrev ArrayFollows : ArrayParts → Type 0
ArrayFollows array = ArrayIsSound array → Joins array_names (array_written array)

abbrev ObjectFollows : ObjectParts → Type 0
ObjectFollows object = ObjectIsSound object → Joins object_names (object_parts_written object)

abbrev PropertyFollows : Property → Type 0
PropertyFollows property = PropertyIsSound property → IsSound (property_written property).1

abbrev PartsFollow : SchemaObject → Type 0
PartsFollow object = PartsAreSound object → (title : Option (List ℕ)) → IsSound (object_written object title)

abbrev SubschemasFollow : Subschemas → Type 0
SubschemasFollow u = SubschemasAreSound u → IsKeyed subschema_names (members_of (subschemas_written u))

one : (schema : Schema) → SchemaFollows schema → ItemsFollow (One schema)
one schema follows h = subst IsSound (sym (item-is schema)) (follows (one_within schema h) None)

tuple : (schemas : List Schema) → AllByRecursion SchemaFollows schemas → ItemsFollow (Tuple schemas)
tuple schemas follow h =
    let sound = untitled_sound schemas (each_follows HasSoundContents IsWrittenSoundly schemas follow (tuple_within schemas h)) in
    subst IsSound (sym (tuple-is schemas)) ((IsSound-List (map untitled (map schema_written schemas))).1 sound)

truth : (b : Bool) → SchemaFollows (Truth b)
truth b h title = subst (λ (w : Written). IsSound (w.under title)) (sym (truth-is b)) (truth_sound b)

object : (o : SchemaObject) → PartsFollow o → SchemaFollows (Object o)
object o follow h title = subst (λ (w : Written). IsSound (w.under title)) (sym (object-under o)) (follow (object_within o h) title)

array : (a : ArrayParts) → IfSome a.items ItemsFollow → ArrayFollows a
array a follow h =
    let counts = counts_of a h in
    let items = mapped items_written IsSound a.items (some_follows ItemsAreSound (λ x. IsSound (items_written x)) a.items follow (in_array a h)) in
    subst (Joins array_names) (sym (array-is a)) (λ rest names apart keyed. entries_before ((codes "items", option_map items_written a.items) ∷ (codes "minItems", count_json a.min) ∷ (codes "maxItems", count_json a.max) ∷ []) rest names apart
    (items, (count_where a.min counts.0, (count_where a.max counts.1, tt))) keyed)

parts : (o : ObjectParts) → AllByRecursion PropertyFollows (out-ObjectParts o).properties × IfSome (out-ObjectParts o).additional SchemaFollows → ObjectFollows o
parts o follow h =
    let p = out-ObjectParts o in
    let within = in_object o h in
    let own = properties_of o h in
    let values = properties_sound p.properties (each_follows PropertyIsSound (λ x. IsSound (property_written x).1) p.properties follow.0 within.0) in
    let properties = members_where (map pair_member (map property_written p.properties)) (values, subst AreDistinct (sym (property_names p.properties)) own.names) in
    let additional = additional_where p.additional (some_follows HasSoundContents IsWrittenSoundly p.additional follow.1 within.1) in
    subst (Joins object_names) (sym (object_parts-are o)) (λ rest names apart keyed. entries_before (
    (codes "properties", unless_empty (map pair_member (map property_written p.properties)))
    ∷ (codes "required", names_json p.required)
    ∷ (codes "additionalProperties", option_map additional_json (option_map schema_written p.additional))
    ∷ (codes "minProperties", count_json p.min)
    ∷ (codes "maxProperties", count_json p.max)
    ∷ []
    ) rest names apart (properties, (list_where (map Text p.required) (each_text p.required), (additional, (count_where p.min own.counts.0, (count_where p.max own.counts.1, tt))))) keyed)

property : (p : Property) → SchemaFollows p.schema → PropertyFollows p
property p follows h = subst IsSound (sym (ap (λ (pair : List ℕ × Json). pair.1) (property-is p))) (follows (in_property p h) None)

own : (o : SchemaObject) → IfSome (out-SchemaObject o).array ArrayFollows × IfSome (out-SchemaObject o).object ObjectFollows × IfSome (out-SchemaObject o).subschemas SubschemasFollow → PartsFollow o
own o follow h title =
    let p = out-SchemaObject o in
    let within = in_parts o h in
    let values = values_of o h in
    subst IsSound (sym (object-is o title)) (level_sound (object_level o) (record {
      default = values.default;
      values = values.values;
      const = values.const;
      extensions = values.extensions;
      number = values.number;
      string = values.string;
      array = mapped array_written (Joins array_names) p.array (some_follows ArrayIsSound (λ x. Joins array_names (array_written x)) p.array follow.0 within.0);
      object = mapped object_parts_written (Joins object_names) p.object (some_follows ObjectIsSound (λ x. Joins object_names (object_parts_written x)) p.object follow.1 within.1);
      subschemas = mapped subschemas_written (λ es. IsKeyed subschema_names (members_of es)) p.subschemas (some_follows SubschemasAreSound (λ x. IsKeyed subschema_names (members_of (subschemas_written x))) p.subschemas follow.2 within.2);
    }) title)

subschemas : (u : Subschemas) → IfSome u.all_of (AllByRecursion SchemaFollows) × IfSome u.any_of (AllByRecursion SchemaFollows) × IfSome u.one_of (AllByRecursion SchemaFollows) × IfSome u.not SchemaFollows → SubschemasFollow u
subschemas u follow h =
    let within = in_subschemas u h in
    let all_of = schemas_where u.all_of (lists_follow HasSoundContents IsWrittenSoundly u.all_of follow.0 within.0) in
    let any_of = schemas_where u.any_of (lists_follow HasSoundContents IsWrittenSoundly u.any_of follow.1 within.1) in
    let one_of = schemas_where u.one_of (lists_follow HasSoundContents IsWrittenSoundly u.one_of follow.2 within.2) in
    let other = untitled_where u.not (some_follows HasSoundContents IsWrittenSoundly u.not follow.3 within.3) in
    subst (λ es. IsKeyed subschema_names (members_of es)) (sym (subschemas-are u)) (entries_keyed (
    (codes "allOf", schemas_json (option_map (map schema_written) u.all_of))
    ∷ (codes "anyOf", schemas_json (option_map (map schema_written) u.any_of))
    ∷ (codes "oneOf", schemas_json (option_map (map schema_written) u.one_of))
    ∷ (codes "not", option_map untitled (option_map schema_written u.not))
    ∷ []
    ) (all_of, (any_of, (one_of, (other, tt)))) refl)

pub schema_sound : (title : Option (List ℕ)) (schema : Schema) → HasSoundContents schema → IsSound (schema_json title schema)
schema_sound title schema sound =
    by_parts ItemsFollow SchemaFollows ArrayFollows ObjectFollows PropertyFollows PartsFollow SubschemasFollow one tuple truth object array parts property own subschemas schema sound title
