-- A written type, with what stands beside it, asks what the type and the other parts of the schema ask.
use Rattle.std.proofs.Common.{◌≡◌, ℕ, ℤ, Bool, true, false, ◌&&◌, List, [], ◌∷◌, ◌++◌, Option, Some, None, option_map, unwrap_or, bytes_eq, refl, sym, subst, ◌∙◌, ap, ap₂}
use Rattle.std.specs.List.{list_any, AllByRecursion}
use Rattle.std.specs.Option.{option_map_or, option_or}
use Rattle.std.specs.Prelude.{codes, is_some, ⊤, Contains}
use Rattle.schema_values.specs.declared.json_value.Json.{Json, Bool as Truth, out-Json}
use Rattle.schema_values.specs.declared.json_value.Json.TheOpen.{Json-F}
use Rattle.schema_values.specs.declared.json_value.Json.TheVariants as json
use Rattle.schema_values.specs.declared.json_value.Member.{Member}
use Rattle.schema_values.specs.declared.schema.ArrayParts.{ArrayParts}
use Rattle.schema_values.specs.declared.schema.InstanceType.{InstanceType}
use Rattle.schema_values.specs.declared.schema.InstanceType.TheVariants.{Boolean, Object, Array, String, Integer}
use Rattle.schema_values.specs.declared.schema.InstanceTypes.{InstanceTypes}
use Rattle.schema_values.specs.declared.schema.InstanceTypes.TheVariants.{Single}
use Rattle.schema_values.specs.declared.schema.Items.{Items}
use Rattle.schema_values.specs.declared.schema.Items.TheOpen.{Schema-F}
use Rattle.schema_values.specs.declared.schema.NumberBounds.{NumberBounds}
use Rattle.schema_values.specs.declared.schema.ObjectParts.{ObjectParts, out-ObjectParts}
use Rattle.schema_values.specs.declared.schema.Schema.{Schema, out-Schema}
use Rattle.schema_values.specs.Get.{first_named}
use Rattle.schema_values.specs.Parts.{Parts}
use Rattle.schema_values.specs.Same.{same_json}
use Rattle.openapi_values.specs.IfTrue.{if_true}
use Rattle.openapi_values.specs.Keywords.{is_annotation, bound_or, part_of}
use Rattle.openapi_values.specs.Levels.{Level, is_true, as_text, has_type}
use Rattle.openapi_values.specs.Lookup.{is_integer}
use Rattle.openapi_values.specs.Objects.{Entry, members_of, unless_empty}
use Rattle.openapi_values.specs.Options.{is_none_or, is_some_and}
use Rattle.openapi_values.specs.Refusal.{bounds_refusal}
use Rattle.openapi_values.specs.Rows.{is_listed}
use Rattle.openapi_values.specs.SchemaJson.{const_values, values_of, values_json, enum_entries, number_entries, text_entries, kind_entries, type_entries, type_name, array_written, object_parts_written}
use Rattle.openapi_values.proofs.CallerLemmas.{object_parts-are}
use Rattle.schema_meaning.specs.Asked.{is_of, format_holds, number_holds, array_holds, object_holds, form_holds}
use Rattle.schema_meaning.specs.Accepted.{AreKept}
use Rattle.schema_meaning.specs.Forms.{ItemsLevel, items_by_form}
use Rattle.schema_meaning.specs.Reached.{array_schemas, object_schemas, item_schemas, smaller_schemas}
use Rattle.schema_values.proofs.CallerLemmas.{contains_first}
use Rattle.schema_meaning.proofs.Arrays.{MeansOf, array_part}
use Rattle.schema_meaning.proofs.Behind.{subschema_entries, no_subschema}
use Rattle.schema_meaning.proofs.Combined.{rows}
use Rattle.schema_meaning.proofs.Entries.{value_named}
use Rattle.schema_meaning.proofs.Members.{written_properties, MeanOf, object_part}
use Rattle.schema_meaning.proofs.Noted.{all_entries, named_among}
use Rattle.schema_meaning.proofs.NotRefused.{HasOne, one_form}
use Rattle.schema_meaning.proofs.Numbers.{AreMarked, number_part}
use Rattle.schema_meaning.proofs.Texts.{text_part}
use Rattle.schema_meaning.proofs.TypeEntries.{type_row, enum_part}
use Rattle.schema_meaning.proofs.WrittenLevels.{level_of}

pub or_none : {A : Type 0} (o p : Option A) → p ≡ None → option_or o p ≡ o
or_none None p e = e
or_none (Some x) p e = refl

marked_by : (b : Bool) (o : Option Json) → o ≡ None → is_some_and (option_or (if_true b) o) (λ s. is_true (out-Json s)) ≡ b
marked_by true o e = ap is_true (json.outs-Bool true)
marked_by false o e = ap (λ (o : Option Json). is_some_and o (λ s. is_true (out-Json s))) e

module _ (given : Option (List ℕ)) (p : Parts) (kept : AreKept p) (value : Json) (smaller : Json → Json → Bool) (next : Json → Bool) (means : Json → Schema → Bool) (no_truth : (x : Json) (b : Bool) → smaller x (Truth b) ≡ false) (truth_kept : (x : Json) (s : Schema) (b : Bool) → out-Schema s ≡ Schema-F.Bool b → means x s ≡ b) where
  -- the entries behind the annotations, and the whole object
  abbrev pub entries_of : Option InstanceTypes → List Entry
  entries_of t = type_entries t (level_of p) ++ subschema_entries p.subschemas

  abbrev pub members_for : Option InstanceTypes → List Member
  members_for t = members_of (all_entries given p (entries_of t))

  abbrev pub rows_at : InstanceType → Level Json → List Entry → Bool
  rows_at type x = rows smaller next value x (members_for (Some (Single type)))

  -- the values that are given list the value
  abbrev pub listed : Bool
  listed = is_none_or p.enum_values (list_any (same_json value))

  -- the smaller values of a value, of which some schemas mean what they are written as
  abbrev pub PartsMean : List Schema → Level Json → Type 0
  PartsMean ss (Json-F.List xs) = AllByRecursion (MeanOf smaller means no_truth truth_kept ss) xs
  PartsMean ss (Json-F.Object ms) = AllByRecursion (λ m. MeanOf smaller means no_truth truth_kept ss m.value) ms
  PartsMean ss _ = ⊤

  -- the type says, and what stands beside it, what is asked
  abbrev pub TypeMeans : InstanceType → Type 0
  TypeMeans type = (x : Level Json) → PartsMean (smaller_schemas (Some (Single type)) p) x → rows_at type x (type_entries (Some (Single type)) (level_of p)) ≡ (is_of x type && (listed && form_holds means x p))

  by_type : (type : InstanceType) (x : Level Json) → rows_at type x (type_entries (Some (Single type)) (level_of p)) ≡ (has_type (type_name type) x && rows_at type x (kind_entries type (level_of p)))
  unfolding is_annotation bound_or part_of
  by_type type x = ap (λ b. b && rows_at type x (kind_entries type (level_of p))) (type_row smaller next value x (members_for (Some (Single type))) (type_name type))

  pub values_are : values_of p.const_value p.enum_values ≡ p.enum_values
  values_are = ap (λ (o : Option Json). values_of o p.enum_values) kept.no_const

  pub boolean_means : TypeMeans Boolean
  unfolding is_annotation bound_or part_of
  boolean_means x h = by_type Boolean x ∙ by_level x
    where
      by_level : (x : Level Json) → (has_type (codes "boolean") x && rows_at Boolean x (kind_entries Boolean (level_of p))) ≡ (is_of x Boolean && (listed && form_holds means x p))
      by_level Json-F.Null = refl
      by_level (Json-F.Bool b) = ap (λ (o : Option (List Json)). is_none_or (values_json o) (is_listed value) && true) values_are ∙ ap (λ b. b && true) (enum_part value p.enum_values)
      by_level (Json-F.Int n) = refl
      by_level (Json-F.Text t) = refl
      by_level (Json-F.List xs) = refl
      by_level (Json-F.Object ms) = refl

  pub string_means : TypeMeans String
  string_means x h = by_type String x ∙ by_level x
    where
      by_level : (x : Level Json) → (has_type (codes "string") x && rows_at String x (kind_entries String (level_of p))) ≡ (is_of x String && (listed && form_holds means x p))
      by_level Json-F.Null = refl
      by_level (Json-F.Bool b) = refl
      by_level (Json-F.Int n) = refl
      by_level (Json-F.Text t) =
          ap (λ (o : Option (List Json)). rows_at String (Json-F.Text t) (text_entries p.format p.string o)) values_are
          ∙ text_part smaller next value t (members_for (Some (Single String))) p.format p.string p.enum_values
      by_level (Json-F.List xs) = refl
      by_level (Json-F.Object ms) = refl

  -- ---- an integer

  abbrev integer_entries : Option NumberBounds → List Entry
  integer_entries o = type_entries (Some (Single Integer)) (record (level_of p) { number = o }) ++ subschema_entries p.subschemas

  is_marked : (b : NumberBounds) → p.number ≡ Some b → bounds_refusal (Some b) ≡ None → (n : ℤ) → AreMarked smaller next value n (members_for (Some (Single Integer))) b
  unfolding is_annotation
  is_marked b e right n =
      let once = one_form b right in
      let schema = members_for (Some (Single Integer)) in
      record {
        low =
            ap (λ (o : Option Json). is_some_and o (λ s. is_true (out-Json s)))
            (named_among given p (entries_of (Some (Single Integer))) (codes "exclusiveMinimum") refl refl ∙ ap (λ (o : Option NumberBounds). value_named (codes "exclusiveMinimum") (integer_entries o)) e)
            ∙ marked_by (is_some b.exclusive_minimum) (value_named (codes "exclusiveMinimum") (subschema_entries p.subschemas)) (no_subschema (codes "exclusiveMinimum") p.subschemas refl refl refl refl);
        high =
            ap (λ (o : Option Json). is_some_and o (λ s. is_true (out-Json s)))
            (named_among given p (entries_of (Some (Single Integer))) (codes "exclusiveMaximum") refl refl ∙ ap (λ (o : Option NumberBounds). value_named (codes "exclusiveMaximum") (integer_entries o)) e)
            ∙ marked_by (is_some b.exclusive_maximum) (value_named (codes "exclusiveMaximum") (subschema_entries p.subschemas)) (no_subschema (codes "exclusiveMaximum") p.subschemas refl refl refl refl);
        low_once = once.0;
        high_once = once.1;
      }

  integer_is : is_integer (members_for (Some (Single Integer))) ≡ true
  unfolding is_annotation
  integer_is =
      ap (λ (o : Option Json). is_some_and o (λ s. is_some_and (as_text (out-Json s)) (λ name. bytes_eq name (codes "integer")))) (named_among given p (entries_of (Some (Single Integer))) (codes "type") refl refl)
      ∙ ap (λ (x : Level Json). is_some_and (as_text x) (λ name. bytes_eq name (codes "integer"))) (json.outs-Text (codes "integer"))

  pub integer_means : p.instance_type ≡ Some (Single Integer) → bounds_refusal p.number ≡ None → TypeMeans Integer
  integer_means e right x h = by_type Integer x ∙ by_level x
    where
      by_level : (x : Level Json) → (has_type (codes "integer") x && rows_at Integer x (kind_entries Integer (level_of p))) ≡ (is_of x Integer && (listed && form_holds means x p))
      by_level Json-F.Null = refl
      by_level (Json-F.Bool b) = refl
      by_level (Json-F.Int n) =
          ap (λ (o : Option (List Json)). rows_at Integer (Json-F.Int n) (number_entries p.format p.number o)) values_are
          ∙ number_part smaller next value n (members_for (Some (Single Integer))) p.format p.number p.enum_values integer_is
          (λ b f. is_marked b f (sym (ap bounds_refusal f) ∙ right) n)
          ∙ ap (λ (t : Option InstanceTypes). listed && (format_holds t p.format n && is_none_or p.number (number_holds n))) (sym e)
      by_level (Json-F.Text t) = refl
      by_level (Json-F.List xs) = refl
      by_level (Json-F.Object ms) = refl

  -- ---- an array

  -- no const stands
  const_none : (type : InstanceType) (x : Level Json) (es : List Entry) → rows_at type x (enum_entries (const_values p.const_value) ++ es) ≡ rows_at type x es
  const_none type x es = ap (λ (o : Option Json). rows_at type x (enum_entries (const_values o) ++ es)) kept.no_const

  all_listed : p.enum_values ≡ None → listed ≡ true
  all_listed none = ap (λ (o : Option (List Json)). is_none_or o (list_any (same_json value))) none

  mean_items : (ss : List Schema) (s : Schema) → ss ≡ s ∷ [] → (xs : List Json) → AllByRecursion (MeanOf smaller means no_truth truth_kept ss) xs → MeansOf smaller means s xs
  mean_items ss s e [] h = tt
  mean_items ss s e (x ∷ xs) h = (h.0 s (subst (λ (l : List Schema). Contains l s) (sym e) (contains_first s [])), mean_items ss s e xs h.1)

  schema_is : (one : HasOne p) → smaller_schemas (Some (Single Array)) p ≡ one.schema ∷ []
  schema_is one =
      ap (λ (o : Option ArrayParts). option_map_or array_schemas o []) one.is
      ∙ ap (λ (o : Option Items). option_map_or item_schemas o []) one.stand
      ∙ ap (λ (z : ItemsLevel). items_by_form (λ s. s ∷ []) (λ ss. ss) z) one.one

  pub array_means : HasOne p → p.enum_values ≡ None → TypeMeans Array
  array_means one none x h = by_type Array x ∙ by_level x h
    where
      by_level : (x : Level Json) → PartsMean (smaller_schemas (Some (Single Array)) p) x → (has_type (codes "array") x && rows_at Array x (kind_entries Array (level_of p))) ≡ (is_of x Array && (listed && form_holds means x p))
      by_level Json-F.Null h = refl
      by_level (Json-F.Bool b) h = refl
      by_level (Json-F.Int n) h = refl
      by_level (Json-F.Text t) h = refl
      by_level (Json-F.List xs) h =
          const_none Array (Json-F.List xs) (unwrap_or (option_map array_written p.array) [])
          ∙ ap (λ (o : Option ArrayParts). rows_at Array (Json-F.List xs) (unwrap_or (option_map array_written o) [])) one.is
          ∙ array_part smaller means next value (members_for (Some (Single Array))) xs one.array one.items one.schema one.stand one.one (mean_items (smaller_schemas (Some (Single Array)) p) one.schema (schema_is one) xs h)
          ∙ ap (λ (o : Option ArrayParts). is_none_or o (array_holds means xs)) (sym one.is)
          ∙ ap (λ b. b && is_none_or p.array (array_holds means xs)) (sym (all_listed none))
      by_level (Json-F.Object ms) h = refl

  -- ---- an object

  abbrev object_entries : Option Json → Option ObjectParts → List Entry
  object_entries const o = type_entries (Some (Single Object)) (record (level_of p) { const_value = const; object = option_map object_parts_written o }) ++ subschema_entries p.subschemas

  properties_stand : (o : ObjectParts) → p.object ≡ Some o → first_named (codes "properties") (members_for (Some (Single Object))) ≡ unless_empty (written_properties (out-ObjectParts o).properties)
  unfolding is_annotation
  properties_stand o e =
      named_among given p (entries_of (Some (Single Object))) (codes "properties") refl refl
      ∙ ap₂ (λ (c : Option Json) (o : Option ObjectParts). value_named (codes "properties") (object_entries c o)) kept.no_const e
      ∙ ap (λ (es : List Entry). value_named (codes "properties") (es ++ subschema_entries p.subschemas)) (object_parts-are o)
      ∙ or_none (unless_empty (written_properties (out-ObjectParts o).properties)) (value_named (codes "properties") (subschema_entries p.subschemas)) (no_subschema (codes "properties") p.subschemas refl refl refl refl)

  object_rows : (ms : List Member) (o : Option ObjectParts) → p.object ≡ o → AllByRecursion (λ m. MeanOf smaller means no_truth truth_kept (option_map_or object_schemas o []) m.value) ms
      → rows_at Object (Json-F.Object ms) (unwrap_or (option_map object_parts_written o) []) ≡ is_none_or o (object_holds means ms)
  object_rows ms None e h = refl
  object_rows ms (Some o) e h = object_part smaller means no_truth truth_kept next value (members_for (Some (Single Object))) ms o (properties_stand o e) h

  pub object_means : p.enum_values ≡ None → TypeMeans Object
  object_means none x h = by_type Object x ∙ by_level x h
    where
      by_level : (x : Level Json) → PartsMean (smaller_schemas (Some (Single Object)) p) x → (has_type (codes "object") x && rows_at Object x (kind_entries Object (level_of p))) ≡ (is_of x Object && (listed && form_holds means x p))
      by_level Json-F.Null h = refl
      by_level (Json-F.Bool b) h = refl
      by_level (Json-F.Int n) h = refl
      by_level (Json-F.Text t) h = refl
      by_level (Json-F.List xs) h = refl
      by_level (Json-F.Object ms) h =
          const_none Object (Json-F.Object ms) (unwrap_or (option_map object_parts_written p.object) [])
          ∙ object_rows ms p.object refl h
          ∙ ap (λ b. b && is_none_or p.object (object_holds means ms)) (sym (all_listed none))
