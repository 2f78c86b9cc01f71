-- What stands in a schema object is sound, by its level.
use Rattle.std.proofs.Common.{◌≡◌, ℕ, ℤ, Bool, true, false, not, List, [], ◌∷◌, ◌++◌, Option, Some, None, is_some, option_map, unwrap_or, codes, cond, IfSome, refl}
use Rattle.std.specs.List.{list_all, AllByRecursion}
use Rattle.std.specs.Option.{option_map_or, option_or, option_and_then}
use Rattle.schema_values.specs.declared.json_value.Json.{Json, Text}
use Rattle.schema_values.specs.declared.json_value.Member.{Member}
use Rattle.schema_values.specs.declared.schema.InstanceType.{InstanceType}
use Rattle.schema_values.specs.declared.schema.InstanceType.TheVariants.{Null, Boolean, Object, Array, Number, String, Integer}
use Rattle.schema_values.specs.declared.schema.InstanceTypes.{InstanceTypes}
use Rattle.schema_values.specs.declared.schema.InstanceTypes.TheVariants.{Single, Several}
use Rattle.schema_values.specs.declared.schema.LengthBounds.{LengthBounds}
use Rattle.schema_values.specs.declared.schema.NumberBounds.{NumberBounds}
use Rattle.schema_values.specs.declared.schema.SchemaObject.{SchemaObject-F}
use Rattle.schema_values.specs.Get.{first_named}
use Rattle.schema_values.specs.Sound.{IsSound, IsWhole}
use Rattle.schema_values.specs.SoundMembers.{HasSoundValue, HasSoundMembers}
use Rattle.schema_values.proofs.CallerLemmas.{IsSound-List, IsSound-Object}
use Rattle.openapi_values.specs.IfTrue.{if_true}
use Rattle.openapi_values.specs.Objects.{Entry, members_of, object_of, reference_json}
use Rattle.openapi_values.specs.SchemaJson.{Level, annotations, bound_entries, bound_json, const_values, count_json, entries_behind, enum_entries, extension_entries, kind_entries, nothing_entries, null_values, object_step, own_entries, truth_json, type_entries, type_name, values_json, values_of, without_values}
use Rattle.openapi_values.specs.SoundContents.{AreCounts, AreWholeBounds, IsCount}
use Rattle.openapi_values.proofs.Keyed.{IsKeyed, none_keyed}
use Rattle.openapi_values.proofs.KeyedEntries.{Joins, apart_from_extensions, are_apart, entries_before, extension_names, extensions_before, has_prefix, some_join}
use Rattle.openapi_values.proofs.SoundLevels.{named_sound}
use Rattle.openapi_values.proofs.SoundObjects.{IsSoundWhere, entries_keyed, object_sound, reference_is_sound, text_where, truth_where}

-- ---- values, counts and bounds

pub count_where : (count : Option ℕ) → IfSome count IsCount → IsSoundWhere (count_json count)
count_where None whole = tt
count_where (Some n) whole = whole

bound_where : (included excluded : Option ℤ) → IfSome included IsWhole → IfSome excluded IsWhole → IsSoundWhere (bound_json included excluded)
bound_where (Some n) excluded whole also = whole
bound_where None (Some n) whole also = also
bound_where None None whole also = tt

values_where : (values : Option (List Json)) → IfSome values (AllByRecursion IsSound) → IsSoundWhere (values_json values)
values_where None sound = tt
values_where (Some values) sound = (IsSound-List values).1 sound

const_sound : (const : Option Json) → IfSome const IsSound → IfSome (const_values const) (AllByRecursion IsSound)
const_sound None sound = tt
const_sound (Some value) sound = (sound, tt)

values_sound : (const : Option Json) (values : Option (List Json)) → IfSome const IsSound → IfSome values (AllByRecursion IsSound) → IfSome (values_of const values) (AllByRecursion IsSound)
values_sound None values sound also = also
values_sound (Some value) values sound also = (sound, tt)

null_sound : (const : Option Json) → IfSome const IsSound → AllByRecursion IsSound (null_values const)
null_sound None sound = (tt, tt)
null_sound (Some value) sound = (sound, tt)

example_where : (name : List ℕ) (ms : List Member) → AllByRecursion HasSoundValue ms → IsSoundWhere (first_named name ms)
example_where name ms sound = by_value (first_named name ms) refl
  where
    by_value : (o : Option Json) → first_named name ms ≡ o → IsSoundWhere o
    by_value None e = tt
    by_value (Some json) e = named_sound name ms json sound e

empty_sound : IsSound (object_of [])
empty_sound = object_sound [] refl tt

pub truth_sound : (truth : Bool) → IsSound (truth_json truth)
truth_sound true = empty_sound
truth_sound false = object_sound nothing_entries refl (empty_sound, tt)

-- ---- the members behind annotations

abbrev pub array_names : List (List ℕ)
array_names = codes "items" ∷ codes "minItems" ∷ codes "maxItems" ∷ []

abbrev pub object_names : List (List ℕ)
object_names = codes "properties" ∷ codes "required" ∷ codes "additionalProperties" ∷ codes "minProperties" ∷ codes "maxProperties" ∷ []

abbrev pub subschema_names : List (List ℕ)
subschema_names = codes "allOf" ∷ codes "anyOf" ∷ codes "oneOf" ∷ codes "not" ∷ []

abbrev note_names : List (List ℕ)
note_names = codes "nullable" ∷ codes "readOnly" ∷ codes "writeOnly" ∷ codes "deprecated" ∷ codes "example" ∷ codes "title" ∷ codes "description" ∷ codes "default" ∷ []

-- sound members of names that are no annotations and begin with no `x-`
record StandBehind (ms : List Member) : Type 0 where
  names : List (List ℕ)
  keyed : IsKeyed names ms
  plain : list_all (λ name. not (has_prefix name)) names ≡ true
  apart : are_apart note_names names ≡ true

-- one level of a schema object, whose parts are sound
pub record IsSoundLevel (level : Level SchemaObject-F) : Type 0 where
  pub default : IfSome level.default IsSound
  pub values : IfSome level.enum_values (AllByRecursion IsSound)
  pub const : IfSome level.const_value IsSound
  pub extensions : HasSoundMembers level.extensions
  pub number : IfSome level.number AreWholeBounds
  pub string : IfSome level.string (λ lengths. AreCounts lengths.min lengths.max)
  pub array : IfSome level.array (Joins array_names)
  pub object : IfSome level.object (Joins object_names)
  pub subschemas : IfSome level.subschemas (λ es. IsKeyed subschema_names (members_of es))

module _ (level : Level SchemaObject-F) (sound : IsSoundLevel level) where
  abbrev subs : List Entry
  subs = unwrap_or level.subschemas []

  subs_keyed : IsKeyed subschema_names (members_of subs)
  subs_keyed = by_case level.subschemas sound.subschemas
    where
      by_case : (o : Option (List Entry)) → IfSome o (λ es. IsKeyed subschema_names (members_of es)) → IsKeyed subschema_names (members_of (unwrap_or o []))
      by_case None h = none_keyed subschema_names
      by_case (Some es) h = h

  enum_where : IsSoundWhere (values_json (values_of level.const_value level.enum_values))
  enum_where = values_where (values_of level.const_value level.enum_values) (values_sound level.const_value level.enum_values sound.const sound.values)

  const_where : IsSoundWhere (values_json (const_values level.const_value))
  const_where = values_where (const_values level.const_value) (const_sound level.const_value sound.const)

  number_behind : (kind : List ℕ) (bounds : Option NumberBounds) → IfSome bounds AreWholeBounds
      → StandBehind (members_of (((codes "type", Some (Text kind)) ∷ (codes "format", option_map Text level.format) ∷ (option_map_or bound_entries bounds [] ++ enum_entries (values_of level.const_value level.enum_values))) ++ subs))
  number_behind kind None whole = record {
    names = codes "type" ∷ codes "format" ∷ codes "enum" ∷ subschema_names;
    keyed = entries_before ((codes "type", Some (Text kind)) ∷ (codes "format", option_map Text level.format) ∷ enum_entries (values_of level.const_value level.enum_values)) subs subschema_names refl (tt, (text_where level.format, (enum_where, tt))) subs_keyed;
    plain = refl;
    apart = refl;
  }
  number_behind kind (Some b) whole = record {
    names = codes "type" ∷ codes "format" ∷ codes "exclusiveMinimum" ∷ codes "exclusiveMaximum" ∷ codes "minimum" ∷ codes "maximum" ∷ codes "enum" ∷ subschema_names;
    keyed = entries_before ((codes "type", Some (Text kind)) ∷ (codes "format", option_map Text level.format) ∷ (bound_entries b ++ enum_entries (values_of level.const_value level.enum_values))) subs subschema_names refl (
      tt,
      (
        text_where level.format,
        (
          truth_where (is_some b.exclusive_minimum),
          (
            truth_where (is_some b.exclusive_maximum),
            (
              bound_where b.minimum b.exclusive_minimum whole.minimum whole.exclusive_minimum,
              (bound_where b.maximum b.exclusive_maximum whole.maximum whole.exclusive_maximum, (enum_where, tt)),
            ),
          ),
        ),
      ),
    ) subs_keyed;
    plain = refl;
    apart = refl;
  }

  text_behind : (bounds : Option LengthBounds) → IfSome bounds (λ lengths. AreCounts lengths.min lengths.max)
      → IsSoundWhere (count_json (option_and_then (λ b. b.min) bounds)) × IsSoundWhere (count_json (option_and_then (λ b. b.max) bounds))
  text_behind None counts = (tt, tt)
  text_behind (Some b) counts = (count_where b.min counts.0, count_where b.max counts.1)

  kind_behind : (kind : InstanceType) → StandBehind (members_of (((codes "type", Some (Text (type_name kind))) ∷ kind_entries kind level) ++ subs))
  kind_behind Null = record {
    names = codes "type" ∷ codes "enum" ∷ subschema_names;
    keyed = entries_before ((codes "type", Some (Text (type_name Null))) ∷ kind_entries Null level) subs subschema_names refl (tt, ((IsSound-List (null_values level.const_value)).1 (null_sound level.const_value sound.const), tt)) subs_keyed;
    plain = refl;
    apart = refl;
  }
  kind_behind Boolean = record {
    names = codes "type" ∷ codes "enum" ∷ subschema_names;
    keyed = entries_before ((codes "type", Some (Text (type_name Boolean))) ∷ kind_entries Boolean level) subs subschema_names refl (tt, (enum_where, tt)) subs_keyed;
    plain = refl;
    apart = refl;
  }
  kind_behind Object = record {
    names = codes "type" ∷ codes "enum" ∷ (object_names ++ subschema_names);
    keyed = entries_before ((codes "type", Some (Text (type_name Object))) ∷ enum_entries (const_values level.const_value)) (unwrap_or level.object [] ++ subs) (object_names ++ subschema_names) refl (tt, (const_where, tt))
        (some_join object_names level.object sound.object subs subschema_names refl subs_keyed);
    plain = refl;
    apart = refl;
  }
  kind_behind Array = record {
    names = codes "type" ∷ codes "enum" ∷ (array_names ++ subschema_names);
    keyed = entries_before ((codes "type", Some (Text (type_name Array))) ∷ enum_entries (const_values level.const_value)) (unwrap_or level.array [] ++ subs) (array_names ++ subschema_names) refl (tt, (const_where, tt))
        (some_join array_names level.array sound.array subs subschema_names refl subs_keyed);
    plain = refl;
    apart = refl;
  }
  kind_behind Number = number_behind (type_name Number) level.number sound.number
  kind_behind String =
      let (least, greatest) = text_behind level.string sound.string in
      record {
        names = codes "type" ∷ codes "format" ∷ codes "enum" ∷ codes "minLength" ∷ codes "maxLength" ∷ subschema_names;
        keyed = entries_before ((codes "type", Some (Text (type_name String))) ∷ kind_entries String level) subs subschema_names refl (tt, (text_where level.format, (enum_where, (least, (greatest, tt))))) subs_keyed;
        plain = refl;
        apart = refl;
      }
  kind_behind Integer = number_behind (type_name Integer) level.number sound.number

  own_behind : (types : Option InstanceTypes) → StandBehind (members_of (type_entries types level ++ subs))
  own_behind None = record { names = subschema_names; keyed = subs_keyed; plain = refl; apart = refl }
  own_behind (Some (Several types)) = record { names = subschema_names; keyed = subs_keyed; plain = refl; apart = refl }
  own_behind (Some (Single kind)) = kind_behind kind

  behind : (without : Bool) → StandBehind (members_of (cond without nothing_entries (own_entries level)))
  behind true = record { names = codes "not" ∷ []; keyed = entries_keyed nothing_entries (empty_sound, tt) refl; plain = refl; apart = refl }
  behind false = own_behind level.instance_type

  abbrev notes : Option (List ℕ) → List Entry
  notes given =
      (codes "nullable", if_true level.nullable)
      ∷ (codes "readOnly", if_true level.read_only)
      ∷ (codes "writeOnly", if_true level.write_only)
      ∷ (codes "deprecated", if_true level.deprecated)
      ∷ (codes "example", first_named (codes "example") level.extensions)
      ∷ (codes "title", option_map Text (option_or given level.title))
      ∷ (codes "description", option_map Text level.description)
      ∷ (codes "default", level.default)
      ∷ []

  -- an object of annotations, extensions and what stands behind them
  parts_sound : (given : Option (List ℕ)) (es : List Entry) → StandBehind (members_of es) → IsSound (object_of (annotations given level ++ es))
  parts_sound given es h =
      let extended = extensions_before level.extensions es h.names h.plain sound.extensions.0 sound.extensions.1 h.keyed in
      let keyed = entries_before (notes given) (extension_entries level.extensions ++ es) (extension_names level.extensions ++ h.names) (apart_from_extensions note_names level.extensions h.names refl h.apart) (
        truth_where level.nullable,
        (
          truth_where level.read_only,
          (
            truth_where level.write_only,
            (
              truth_where level.deprecated,
              (
                example_where (codes "example") level.extensions sound.extensions.0,
                (text_where (option_or given level.title), (text_where level.description, (sound.default, tt))),
              ),
            ),
          ),
        ),
      ) extended in
      (IsSound-Object (members_of (annotations given level ++ es))).1 keyed.sound

  pub level_sound : (given : Option (List ℕ)) → IsSound (object_step level given)
  level_sound given = by_reference level.reference
    where
      by_reference : (o : Option (List ℕ)) → IsSound (option_map_or reference_json o (object_of (annotations given level ++ entries_behind level)))
      by_reference (Some reference) = reference_is_sound reference
      by_reference None = parts_sound given (entries_behind level) (behind (without_values level.enum_values))
