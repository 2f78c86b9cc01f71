-- How many JSON values a written schema has, beside those of the schemas inside it.
use Rattle.std.proofs.Common.{◌≡◌, ℕ, suc, ◌+◌, ◌≤◌, List, [], ◌∷◌, ◌++◌, map, sum, is_some, ◌||◌, Option, Some, None, option_map, unwrap_or, cond, codes, Bool, true, false, refl, ◌∙◌, ap, arith}
use Rattle.std.specs.Option.{option_map_or, option_or}
use Rattle.std.proofs.lemmas.List.Sums.{sum_by-cons}
use Rattle.schema_values.specs.declared.json_value.Json.{Json, Text as Words, List as ListOf, Object as ObjectOf, out-Json}
use Rattle.schema_values.specs.declared.json_value.Json.TheOpen.{Json-F}
use Rattle.schema_values.specs.declared.json_value.Json.TheVariants as json
use Rattle.schema_values.specs.declared.json_value.Member.{Member}
use Rattle.schema_values.specs.declared.schema.ArrayParts.{ArrayParts}
use Rattle.schema_values.specs.declared.schema.InstanceType.TheVariants.{Null, Boolean, Object, Array, Number, String, Integer}
use Rattle.schema_values.specs.declared.schema.InstanceTypes.{InstanceTypes}
use Rattle.schema_values.specs.declared.schema.InstanceTypes.TheVariants.{Single, Several}
use Rattle.schema_values.specs.declared.schema.Items.{Items, out-Items}
use Rattle.schema_values.specs.declared.schema.Items.TheOpen.{Items-F, Schema-F}
use Rattle.schema_values.specs.declared.schema.ObjectParts.{ObjectParts, out-ObjectParts}
use Rattle.schema_values.specs.declared.schema.Property.{Property}
use Rattle.schema_values.specs.declared.schema.Schema.{Schema, out-Schema}
use Rattle.schema_values.specs.declared.schema.SchemaObject.{SchemaObject, out-SchemaObject}
use Rattle.schema_values.specs.declared.schema.Subschemas.{Subschemas}
use Rattle.schema_values.specs.Parts.{Parts}
use Rattle.schema_values.specs.Get.{first_named}
use Rattle.openapi_values.specs.IfTrue.{if_true}
use Rattle.openapi_values.specs.Objects.{Entry, members_of as members_in, object_of, reference_json, unless_empty}
use Rattle.openapi_values.specs.Room.{values}
use Rattle.openapi_values.specs.SchemaJson.{Written, untitled, count_json, names_json, extension_entries, truth_json, additional_json, schemas_json, nothing_entries, annotations, const_values, enum_entries, type_entries, entries_behind, object_step, without_values, schema_written, items_written, property_written, array_written, object_parts_written, schema_json}
use Rattle.openapi_values.specs.ValuesOfMembers.{member_values}
use Rattle.openapi_values.proofs.CallerLemmas.{values_is, values_row, array-is, property-is, subschemas-are, object_parts-are}
use Rattle.schema_meaning.specs.Forms.{SchemaLevel, ItemsLevel, level_by_form, items_by_form}
use Rattle.schema_meaning.specs.Reached.{if_any, combined_schemas, item_schemas, array_schemas, object_schemas, smaller_schemas, stands_alone, beside_in, below_in, beside, below}
use Rattle.schema_meaning.proofs.Among.{sum_append}
use Rattle.schema_meaning.proofs.Behind.{subschema_entries}
use Rattle.schema_meaning.proofs.Members.{written_properties}
use Rattle.schema_meaning.proofs.WrittenLevels.{json_of, truth-is, object-under, by_parts-is, level_of, one-is, tuple-is}

-- the values of a schema as it is written
abbrev pub written_size : Schema → ℕ
written_size s = values (json_of s)

value_there : Option Json → ℕ
value_there o = option_map_or values o 0

unfoldable total : List Entry → ℕ
total es = sum (map (λ e. value_there e.1) es)

total_cons : (name : List ℕ) (o : Option Json) (es : List Entry) → total ((name, o) ∷ es) ≡ value_there o + total es
unfolding total
total_cons name o es = sum_by-cons (λ n. n) (value_there o) (map (λ e. value_there e.1) es)

total_append : (es fs : List Entry) → total (es ++ fs) ≡ total es + total fs
unfolding total
total_append es fs = sum_append (λ (e : Entry). value_there e.1) es fs

total_none : total [] ≡ 0
unfolding total
total_none = refl

members_total : (es : List Entry) → sum (map member_values (members_in es)) ≡ total es
unfolding total value_there
members_total [] = refl
members_total ((name, None) ∷ es) = omega (arith, members_total es, sum_by-cons (λ n. n) 0 (map (λ (e : Entry). value_there e.1) es))
members_total ((name, Some v) ∷ es) = omega (arith, members_total es, sum_by-cons (λ n. n) (values v) (map member_values (members_in es)), sum_by-cons (λ n. n) (values v) (map (λ (e : Entry). value_there e.1) es))

values_object : (es : List Entry) → values (object_of es) ≡ suc (total es)
values_object es = values_is (object_of es) ∙ ap values_row (json.outs-Object (members_in es)) ∙ ap suc (members_total es)

values_list : (js : List Json) → values (ListOf js) ≡ suc (sum (map values js))
values_list js = values_is (ListOf js) ∙ ap values_row (json.outs-List js)

values_members : (ms : List Member) → values (ObjectOf ms) ≡ suc (sum (map member_values ms))
values_members ms = values_is (ObjectOf ms) ∙ ap values_row (json.outs-Object ms)

values_positive : (j : Json) → 1 ≤ values j
values_positive j = rw (values_is j) (by_form (out-Json j))
  where
    by_form : (x : Json-F Json Member) → 1 ≤ values_row x
    by_form Json-F.Null = omega arith
    by_form (Json-F.Bool b) = omega arith
    by_form (Json-F.Int i) = omega arith
    by_form (Json-F.Text w) = omega arith
    by_form (Json-F.List js) = omega arith
    by_form (Json-F.Object ms) = omega arith

truth_size : (b : Bool) → values (truth_json b) ≤ 2
unfolding value_there
truth_size true = omega (arith, values_object [], total_none)
truth_size false = omega (arith, values_object nothing_entries, total_cons (codes "not") (Some (object_of [])) [], values_object [], total_none)

-- ---- lists of schemas

all_written : (ss : List Schema) → sum (map written_size ss) ≡ sum (map values (map untitled (map schema_written ss)))
all_written [] = refl
all_written (s ∷ ss) = omega (arith, all_written ss, sum_by-cons (λ n. n) (written_size s) (map written_size ss), sum_by-cons (λ n. n) (written_size s) (map values (map untitled (map schema_written ss))))

some_fit : (o : Option (List Schema)) → sum (map written_size (unwrap_or o [])) ≤ value_there (schemas_json (option_map (map schema_written) o))
unfolding value_there
some_fit None = omega arith
some_fit (Some ss) = omega (arith, all_written ss, values_list (map untitled (map schema_written ss)))

one_fits : (o : Option Schema) → sum (map written_size (if_any o)) ≤ value_there (option_map untitled (option_map schema_written o))
unfolding value_there
one_fits None = omega arith
one_fits (Some s) = omega (arith, sum_by-cons (λ n. n) (written_size s) [])

subschemas_fit : (o : Option Subschemas) → sum (map written_size (option_map_or combined_schemas o [])) ≤ total (subschema_entries o)
subschemas_fit None = omega arith
subschemas_fit (Some u) =
    let one = unwrap_or u.one_of [] ++ if_any u.not in
    let any = unwrap_or u.any_of [] ++ one in
    let d : List Entry = (codes "not", option_map untitled (option_map schema_written u.not)) ∷ [] in
    let c : List Entry = (codes "oneOf", schemas_json (option_map (map schema_written) u.one_of)) ∷ d in
    let b : List Entry = (codes "anyOf", schemas_json (option_map (map schema_written) u.any_of)) ∷ c in
    omega (
      arith,
      ap total (subschemas-are u),
      total_cons (codes "allOf") (schemas_json (option_map (map schema_written) u.all_of)) b,
      total_cons (codes "anyOf") (schemas_json (option_map (map schema_written) u.any_of)) c,
      total_cons (codes "oneOf") (schemas_json (option_map (map schema_written) u.one_of)) d,
      total_cons (codes "not") (option_map untitled (option_map schema_written u.not)) [],
      sum_append written_size (unwrap_or u.all_of []) any,
      sum_append written_size (unwrap_or u.any_of []) one,
      sum_append written_size (unwrap_or u.one_of []) (if_any u.not),
      some_fit u.all_of,
      some_fit u.any_of,
      some_fit u.one_of,
      one_fits u.not,
    )

-- ---- the items of an array

items_fit : (i : Items) → sum (map written_size (item_schemas i)) ≤ values (items_written i)
items_fit i = by_level (out-Items i) refl
  where
    by_level : (z : ItemsLevel) → out-Items i ≡ z → sum (map written_size (items_by_form (λ s. s ∷ []) (λ ss. ss) z)) ≤ values (items_written i)
    by_level (Items-F.One s) e = omega (arith, ap values (one-is i s e), sum_by-cons (λ n. n) (written_size s) [])
    by_level (Items-F.Tuple ss) e = omega (arith, ap values (tuple-is i ss e), all_written ss, values_list (map untitled (map schema_written ss)))

some_items_fit : (o : Option Items) → sum (map written_size (option_map_or item_schemas o [])) ≤ value_there (option_map items_written o)
unfolding value_there
some_items_fit None = omega arith
some_items_fit (Some i) = items_fit i

array_fits : (o : Option ArrayParts) → sum (map written_size (option_map_or array_schemas o [])) ≤ total (unwrap_or (option_map array_written o) [])
array_fits None = omega arith
array_fits (Some a) =
    let rest : List Entry = (codes "minItems", count_json a.min) ∷ (codes "maxItems", count_json a.max) ∷ [] in
    omega (arith, ap total (array-is a), total_cons (codes "items") (option_map items_written a.items) rest, some_items_fit a.items)

-- ---- the properties of an object

properties_fit : (ps : List Property) → sum (map written_size (map (λ p. p.schema) ps)) ≡ sum (map member_values (written_properties ps))
properties_fit [] = refl
properties_fit (p ∷ ps) =
    omega (
      arith,
      properties_fit ps,
      ap (λ (pair : List ℕ × Json). values pair.1) (property-is p),
      sum_by-cons (λ n. n) (written_size p.schema) (map written_size (map (λ p. p.schema) ps)),
      sum_by-cons (λ n. n) (values (property_written p).1) (map member_values (written_properties ps)),
    )

properties_there : (ps : List Property) → sum (map written_size (map (λ p. p.schema) ps)) ≤ value_there (unless_empty (written_properties ps))
unfolding value_there
properties_there [] = omega arith
properties_there (p ∷ ps) = omega (arith, properties_fit (p ∷ ps), values_members (written_properties (p ∷ ps)))

additional_fits : (o : Option Schema) → sum (map written_size (if_any o)) ≤ suc (value_there (option_map additional_json (option_map schema_written o)))
unfolding value_there
additional_fits None = omega arith
additional_fits (Some s) = omega (arith, sum_by-cons (λ n. n) (written_size s) [], by_form (out-Schema s) refl)
  where
    by_form : (z : SchemaLevel) → out-Schema s ≡ z → written_size s ≤ suc (values (additional_json (schema_written s)))
    by_form (Schema-F.Bool b) e = omega (arith, ap (λ (w : Written). values (untitled w)) (truth-is s b e), truth_size b, values_positive (additional_json (schema_written s)))
    by_form (Schema-F.Object o) e = omega (arith, ap (λ (w : Written). values (untitled w)) (object-under s o e), ap (λ (w : Written). values (additional_json w)) (object-under s o e))

object_fits : (o : Option ObjectParts) → sum (map written_size (option_map_or object_schemas o [])) ≤ suc (total (unwrap_or (option_map object_parts_written o) []))
object_fits None = omega arith
object_fits (Some o) =
    let q = out-ObjectParts o in
    let counts : List Entry = (codes "minProperties", count_json q.min) ∷ (codes "maxProperties", count_json q.max) ∷ [] in
    let others : List Entry = (codes "additionalProperties", option_map additional_json (option_map schema_written q.additional)) ∷ counts in
    omega (
      arith,
      ap total (object_parts-are o),
      total_cons (codes "properties") (unless_empty (written_properties q.properties)) ((codes "required", names_json q.required) ∷ others),
      total_cons (codes "required") (names_json q.required) others,
      total_cons (codes "additionalProperties") (option_map additional_json (option_map schema_written q.additional)) counts,
      sum_append written_size (map (λ p. p.schema) q.properties) (if_any q.additional),
      properties_there q.properties,
      additional_fits q.additional,
    )

-- the members of a type
smaller_fit : (t : Option InstanceTypes) (p : Parts) → sum (map written_size (smaller_schemas t p)) ≤ total (type_entries t (level_of p))
unfolding value_there
smaller_fit None p = omega arith
smaller_fit (Some (Several types)) p = omega arith
smaller_fit (Some (Single Null)) p = omega arith
smaller_fit (Some (Single Boolean)) p = omega arith
smaller_fit (Some (Single Object)) p =
    let kind : List Entry = unwrap_or (option_map object_parts_written p.object) [] in
    let name = Words (codes "object") in
    omega (
      arith,
      total_cons (codes "type") (Some name) (enum_entries (const_values p.const_value) ++ kind),
      total_append (enum_entries (const_values p.const_value)) kind,
      values_positive name,
      object_fits p.object,
    )
smaller_fit (Some (Single Array)) p =
    let kind : List Entry = unwrap_or (option_map array_written p.array) [] in
    omega (arith, total_cons (codes "type") (Some (Words (codes "array"))) (enum_entries (const_values p.const_value) ++ kind), total_append (enum_entries (const_values p.const_value)) kind, array_fits p.array)
smaller_fit (Some (Single Number)) p = omega arith
smaller_fit (Some (Single String)) p = omega arith
smaller_fit (Some (Single Integer)) p = omega arith

-- ---- a whole schema

neither : {A : Type 0} (o : Option A) (b : Bool) → (is_some o || b) ≡ false → (o ≡ None) × (b ≡ false)
neither None b h = (refl, h)
neither (Some x) b h = absurd (cc h)

parts_written : (p : Parts) (given : Option (List ℕ)) → p.reference ≡ None → without_values p.enum_values ≡ false
    → object_step (level_of p) given ≡ object_of (annotations given p ++ (type_entries p.instance_type (level_of p) ++ subschema_entries p.subschemas))
parts_written p given e f = rw (e, f) refl

-- a written schema counts for those inside it
pub written_counts : (s : Schema) → suc (sum (map written_size (beside s)) + sum (map written_size (below s))) ≤ written_size s
written_counts s = by_form (out-Schema s) refl
  where
    by_alone : (o : SchemaObject) (b : Bool) → out-Schema s ≡ Schema-F.Object o → stands_alone (out-SchemaObject o) ≡ b
        → suc (sum (map written_size (cond b [] (option_map_or combined_schemas (out-SchemaObject o).subschemas []))) + sum (map written_size (cond b [] (smaller_schemas (out-SchemaObject o).instance_type (out-SchemaObject o))))) ≤ written_size s
    by_alone o true e f = omega (arith, values_positive (json_of s))
    by_alone o false e f =
        let p = out-SchemaObject o in
        let parts = neither p.reference (without_values p.enum_values) f in
        let entries = type_entries p.instance_type (level_of p) ++ subschema_entries p.subschemas in
        omega (
          arith,
          ap values (by_parts-is s o None e ∙ parts_written p None parts.0 parts.1),
          values_object (annotations None p ++ entries),
          total_append (annotations None p) entries,
          total_append (type_entries p.instance_type (level_of p)) (subschema_entries p.subschemas),
          smaller_fit p.instance_type p,
          subschemas_fit p.subschemas,
        )

    by_form : (z : SchemaLevel) → out-Schema s ≡ z → suc (sum (map written_size (level_by_form (λ b. []) beside_in z)) + sum (map written_size (level_by_form (λ b. []) below_in z))) ≤ written_size s
    by_form (Schema-F.Bool b) e = omega (arith, values_positive (json_of s))
    by_form (Schema-F.Object o) e = by_alone o (stands_alone (out-SchemaObject o)) e refl

-- ---- a title counts for itself

title_there : (given title : Option (List ℕ)) → value_there (option_map Words title) ≤ value_there (option_map Words (option_or given title))
unfolding value_there
title_there None title = omega arith
title_there (Some t) None = omega arith
title_there (Some t) (Some u) = omega (arith, values_is (Words u) ∙ ap values_row (json.outs-Text u), values_is (Words t) ∙ ap values_row (json.outs-Text t))

titled_notes : (given : Option (List ℕ)) (p : Parts) (es : List Entry) → total (annotations None p ++ es) ≤ total (annotations given p ++ es)
titled_notes given p es =
    let rest : List Entry = ((codes "description", option_map Words p.description) ∷ (codes "default", p.default) ∷ extension_entries p.extensions) ++ es in
    let titled = λ (title : Option (List ℕ)). (codes "title", option_map Words title) ∷ rest in
    let a = λ (title : Option (List ℕ)). (codes "example", first_named (codes "example") p.extensions) ∷ titled title in
    let b = λ (title : Option (List ℕ)). (codes "deprecated", if_true p.deprecated) ∷ a title in
    let c = λ (title : Option (List ℕ)). (codes "writeOnly", if_true p.write_only) ∷ b title in
    let d = λ (title : Option (List ℕ)). (codes "readOnly", if_true p.read_only) ∷ c title in
    let parts : (title : Option (List ℕ)) → total ((codes "nullable", if_true p.nullable) ∷ d title) ≡
    value_there (if_true p.nullable) + (value_there (if_true p.read_only) + (value_there (if_true p.write_only) + (value_there (if_true p.deprecated) + (value_there (first_named (codes "example") p.extensions) + (value_there (option_map Words title) + total rest)))))
    = λ (title : Option (List ℕ)). omega (
      arith,
      total_cons (codes "nullable") (if_true p.nullable) (d title),
      total_cons (codes "readOnly") (if_true p.read_only) (c title),
      total_cons (codes "writeOnly") (if_true p.write_only) (b title),
      total_cons (codes "deprecated") (if_true p.deprecated) (a title),
      total_cons (codes "example") (first_named (codes "example") p.extensions) (titled title),
      total_cons (codes "title") (option_map Words title) rest,
    ) in
    omega (arith, parts p.title, parts (option_or given p.title), title_there given p.title)

pub titled_fits : (given : Option (List ℕ)) (s : Schema) → written_size s ≤ values (schema_json given s)
titled_fits given s = by_form (out-Schema s) refl
  where
    by_alone : (o : SchemaObject) (es : List Entry) (r : Option (List ℕ)) → values (option_map_or reference_json r (object_of (annotations None (out-SchemaObject o) ++ es))) ≤ values (option_map_or reference_json r (object_of (annotations given (out-SchemaObject o) ++ es)))
    by_alone o es None = omega (arith, values_object (annotations None (out-SchemaObject o) ++ es), values_object (annotations given (out-SchemaObject o) ++ es), titled_notes given (out-SchemaObject o) es)
    by_alone o es (Some text) = omega arith

    by_form : (z : SchemaLevel) → out-Schema s ≡ z → written_size s ≤ values (schema_json given s)
    by_form (Schema-F.Bool b) e = omega (arith, ap (λ (w : Written). values (w.under None)) (truth-is s b e), ap (λ (w : Written). values (w.under given)) (truth-is s b e))
    by_form (Schema-F.Object o) e =
        omega (arith, ap values (by_parts-is s o None e), ap values (by_parts-is s o given e), by_alone o (entries_behind (level_of (out-SchemaObject o))) (out-SchemaObject o).reference)
