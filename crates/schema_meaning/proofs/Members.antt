-- What the written parts of an object ask of its members.
use Rattle.std.proofs.Common.{◌≡◌, ℕ, Bool, true, false, ◌&&◌, ◌||◌, List, [], ◌∷◌, map, length, Option, Some, None, option_map, ◌++◌, cond, bytes_eq, refl, sym, ◌∙◌, ap, ap₂, true≢false, arith}
use Rattle.std.proofs.Math.Bool.{and-false, and-true, or-false}
use Rattle.std.proofs.lemmas.List.Folds.{list_all-map}
use Rattle.std.proofs.lemmas.Slice.Eq.{bytes_eq-Decides}
use Rattle.std.specs.List.{list_all, AllByRecursion}
use Rattle.std.specs.Option.{option_map_or}
use Rattle.std.specs.Prelude.{codes, find, is_some, Contains}
use Rattle.schema_values.specs.declared.json_value.Json.{Json, Bool as Truth, Text, out-Json}
use Rattle.schema_values.specs.declared.json_value.Json.TheOpen.{Json-F}
use Rattle.schema_values.specs.declared.json_value.Json.TheVariants as json
use Rattle.schema_values.specs.declared.json_value.Member.{Member}
use Rattle.schema_values.specs.declared.schema.Items.TheOpen.{Schema-F}
use Rattle.schema_values.specs.declared.schema.ObjectParts.{ObjectParts, out-ObjectParts}
use Rattle.schema_values.specs.declared.schema.Property.{Property}
use Rattle.schema_values.specs.declared.schema.Schema.{Schema, out-Schema}
use Rattle.schema_values.specs.declared.schema.SchemaObject.{SchemaObject, out-SchemaObject}
use Rattle.schema_values.specs.Get.{first_named}
use Rattle.openapi_values.specs.Keywords.{is_annotation, bound_or, part_of}
use Rattle.openapi_values.specs.Levels.{Level, Named, as_text, as_list, as_object, is_true, has_member}
use Rattle.openapi_values.specs.Objects.{pair_member, object_of, reference_json, unless_empty}
use Rattle.openapi_values.specs.Options.{is_none_or, is_some_and}
use Rattle.openapi_values.specs.Rows.{is_property, names_stand, property_admitted, properties_admitted, other_admitted, is_not_too_many}
use Rattle.openapi_values.specs.SchemaJson.{Written, untitled, additional_json, names_json, count_json, annotations, entries_behind, schema_written, property_written, object_parts_written}
use Rattle.openapi_values.proofs.CallerLemmas.{property-is, object_parts-are, all_same}
use Rattle.schema_meaning.specs.Asked.{property_named, member_holds, object_holds, count_holds}
use Rattle.schema_meaning.specs.Forms.{SchemaLevel}
use Rattle.schema_meaning.specs.Reached.{object_schemas, if_any}
use Rattle.schema_meaning.proofs.Among.{among_left, among_right}
use Rattle.schema_values.proofs.CallerLemmas.{contains_first, contains_later}
use Rattle.schema_meaning.proofs.Behind.{always}
use Rattle.schema_meaning.proofs.Combined.{rows}
use Rattle.schema_meaning.proofs.TypeEntries.{least_part, most_part}
use Rattle.schema_meaning.proofs.WrittenLevels.{json_of, truth-is, object-under, by_parts-is, level_of}

swapped : (a b : List ℕ) → bytes_eq a b ≡ bytes_eq b a
swapped a b = by_tests (bytes_eq a b) (bytes_eq b a) refl refl
  where
    by_tests : (x y : Bool) → bytes_eq a b ≡ x → bytes_eq b a ≡ y → x ≡ y
    by_tests true true e f = refl
    by_tests true false e f = absurd (true≢false (sym ((bytes_eq-Decides b a).1 (sym ((bytes_eq-Decides a b).0 e))) ∙ f))
    by_tests false true e f = absurd (true≢false (sym ((bytes_eq-Decides a b).1 (sym ((bytes_eq-Decides b a).0 f))) ∙ e))
    by_tests false false e f = refl

-- properties as members
abbrev pub written_properties : List Property → List Member
written_properties ps = map pair_member (map property_written ps)

property_named-is : (name : List ℕ) (ps : List Property) → first_named name (written_properties ps) ≡ option_map json_of (property_named name ps)
property_named-is name [] = refl
property_named-is name (p ∷ ps) =
    ap (λ (pair : List ℕ × Json). cond (bytes_eq name pair.0) (Some pair.1) (first_named name (written_properties ps))) (property-is p)
    ∙ by_test (bytes_eq name p.name) (property_named-is name ps)
  where
    by_test : (b : Bool) → first_named name (written_properties ps) ≡ option_map json_of (property_named name ps)
        → cond b (Some (json_of p.schema)) (first_named name (written_properties ps)) ≡ option_map json_of (option_map (λ p. p.schema) (cond b (Some p) (find (λ p. bytes_eq name p.name) ps)))
    by_test true later = refl
    by_test false later = later

property_stands : (name : List ℕ) (ps : List Property) → has_member name (written_properties ps) ≡ is_some (property_named name ps)
property_stands name [] = refl
property_stands name (p ∷ ps) =
    ap (λ (pair : List ℕ × Json). bytes_eq pair.0 name || has_member name (written_properties ps)) (property-is p)
    ∙ ap (λ b. b || has_member name (written_properties ps)) (swapped p.name name)
    ∙ by_test (bytes_eq name p.name) (property_stands name ps)
  where
    by_test : (b : Bool) → has_member name (written_properties ps) ≡ is_some (property_named name ps)
        → (b || has_member name (written_properties ps)) ≡ is_some (option_map (λ p. p.schema) (cond b (Some p) (find (λ p. bytes_eq name p.name) ps)))
    by_test true later = refl
    by_test false later = later

property_among : (name : List ℕ) (ps : List Property) (s : Schema) → property_named name ps ≡ Some s → Contains (map (λ p. p.schema) ps) s
property_among name [] s e = absurd (cc e)
property_among name (p ∷ ps) s e = by_test (bytes_eq name p.name) e (property_among name ps s)
  where
    by_test : (b : Bool) → option_map (λ p. p.schema) (cond b (Some p) (find (λ p. bytes_eq name p.name) ps)) ≡ Some s → (property_named name ps ≡ Some s → Contains (map (λ p. p.schema) ps) s) → Contains (map (λ p. p.schema) (p ∷ ps)) s
    by_test true e later = (0, omega arith, let q : p.schema ≡ s = cc e in q)
    by_test false e later = contains_later p.schema (map (λ p. p.schema) ps) s (later e)

is_property-is : (schema : List Member) (ps : List Property) (name : List ℕ) → first_named (codes "properties") schema ≡ unless_empty (written_properties ps) → is_property schema name ≡ is_some (property_named name ps)
is_property-is schema ps name e = ap (λ (o : Option Json). is_some_and o (λ s. is_some_and (as_object (out-Json s)) (has_member name))) e ∙ by_list ps
  where
    by_list : (ps : List Property) → is_some_and (unless_empty (written_properties ps)) (λ s. is_some_and (as_object (out-Json s)) (has_member name)) ≡ is_some (property_named name ps)
    by_list [] = refl
    by_list (p ∷ ps) = ap (λ (x : Level Json). is_some_and (as_object x) (has_member name)) (json.outs-Object (written_properties (p ∷ ps))) ∙ property_stands name (p ∷ ps)

-- an object is not the truth value true
untrue : (s : Schema) (o : SchemaObject) → out-Schema s ≡ Schema-F.Object o → is_true (out-Json (json_of s)) ≡ false
untrue s o e = ap (λ j. is_true (out-Json j)) (by_parts-is s o None e) ∙ by_reference (out-SchemaObject o).reference
  where
    by_reference : (r : Option (List ℕ)) → is_true (out-Json (option_map_or reference_json r (object_of (annotations None (level_of (out-SchemaObject o)) ++ entries_behind (level_of (out-SchemaObject o)))))) ≡ false
    by_reference None = ap is_true (json.outs-Object _)
    by_reference (Some text) = ap is_true (json.outs-Object _)

every_one : {A : Type 0} (xs : List A) → list_all (λ x. true) xs ≡ true
every_one [] = refl
every_one (x ∷ xs) = every_one xs

both_all : {A : Type 0} (p q : A → Bool) (xs : List A) → (list_all p xs && list_all q xs) ≡ list_all (λ x. p x && q x) xs
both_all p q [] = refl
both_all p q (x ∷ xs) = by_tests (p x) (q x) ∙ ap (λ b. (p x && q x) && b) (both_all p q xs)
  where
    by_tests : (a b : Bool) → ((a && list_all p xs) && (b && list_all q xs)) ≡ ((a && b) && (list_all p xs && list_all q xs))
    by_tests true true = refl
    by_tests true false = and-false (list_all p xs)
    by_tests false b = refl

regrouped : (p r a c : Bool) → (p && (r && (a && c))) ≡ ((p && a) && (r && c))
regrouped true true a c = refl
regrouped true false true c = refl
regrouped true false false c = refl
regrouped false r a c = refl

module _ {X : Type 0} (smaller : X → Json → Bool) (means : X → Schema → Bool) (no_truth : (x : X) (b : Bool) → smaller x (Truth b) ≡ false) (truth_kept : (x : X) (s : Schema) (b : Bool) → out-Schema s ≡ Schema-F.Bool b → means x s ≡ b) where
  -- of a smaller value some schemas mean what they are written as
  abbrev pub MeanOf : List Schema → X → Type 0
  MeanOf ss x = (s : Schema) → Contains ss s → smaller x (json_of s) ≡ means x s

  abbrev additional_of : Option Schema → Option Json
  additional_of o = option_map additional_json (option_map schema_written o)

  other_means : (x : X) (o : Option Schema) → MeanOf (if_any o) x → is_none_or (additional_of o) (λ v. is_true (out-Json v) || smaller x v) ≡ is_none_or o (means x)
  other_means x None h = refl
  other_means x (Some a) h = by_form (out-Schema a) refl
    where
      by_form : (z : SchemaLevel) → out-Schema a ≡ z → (is_true (out-Json (additional_json (schema_written a))) || smaller x (additional_json (schema_written a))) ≡ means x a
      by_form (Schema-F.Bool b) e =
          ap (λ (w : Written). is_true (out-Json (additional_json w)) || smaller x (additional_json w)) (truth-is a b e)
          ∙ ap₂ (λ (c d : Bool). c || d) (ap is_true (json.outs-Bool b)) (no_truth x b)
          ∙ or-false b
          ∙ sym (truth_kept x a b e)
      by_form (Schema-F.Object o) e =
          let is = object-under a o e in
          ap (λ (j : Json). is_true (out-Json j) || smaller x j) (ap additional_json is ∙ sym (ap untitled is))
          ∙ ap (λ (c : Bool). c || smaller x (json_of a)) (untrue a o e)
          ∙ h a (contains_first a [])

  member_means : (ps : List Property) (additional : Option Schema) (m : Named X) → MeanOf (map (λ p. p.schema) ps ++ if_any additional) m.value → (o : Option Schema) → property_named m.name ps ≡ o
      → (is_none_or (option_map json_of o) (smaller m.value) && is_none_or (additional_of additional) (λ v. is_some o || (is_true (out-Json v) || smaller m.value v))) ≡ option_map_or (means m.value) o (is_none_or additional (means m.value))
  member_means ps additional m h None e = other_means m.value additional (λ s c. h s (among_right (map (λ p. p.schema) ps) (if_any additional) s c))
  member_means ps additional m h (Some s) e =
      ap₂ (λ (a b : Bool). a && b) (h s (among_left (map (λ p. p.schema) ps) (if_any additional) s (property_among m.name ps s e))) (always (additional_of additional))
      ∙ and-true (means m.value s)

  module _ (next : Json → Bool) (value : Json) (schema : List Member) where
    properties_row : (ps : List Property) (ms : List (Named X)) → is_none_or (unless_empty (written_properties ps)) (λ v. properties_admitted smaller v ms) ≡ list_all (λ m. is_none_or (first_named m.name (written_properties ps)) (smaller m.value)) ms
    properties_row [] ms = sym (every_one ms)
    properties_row (p ∷ ps) ms = ap (λ (x : Level Json). is_some_and (as_object x) (λ properties. list_all (property_admitted smaller properties) ms)) (json.outs-Object (written_properties (p ∷ ps)))

    others_row : (o : Option Json) (ms : List (Named X)) → is_none_or o (λ v. list_all (other_admitted smaller schema v) ms) ≡ list_all (λ m. is_none_or o (λ v. other_admitted smaller schema v m)) ms
    others_row None ms = sym (every_one ms)
    others_row (Some v) ms = refl

    required_row : (names : List (List ℕ)) (ms : List (Named X)) → is_none_or (names_json names) (λ v. names_stand v ms) ≡ list_all (λ name. has_member name ms) names
    required_row [] ms = refl
    required_row (n ∷ ns) ms =
        ap (λ (x : Level Json). is_some_and (as_list x) (list_all (λ name. is_some_and (as_text (out-Json name)) (λ t. has_member t ms)))) (json.outs-List (map Text (n ∷ ns)))
        ∙ list_all-map (λ name. is_some_and (as_text (out-Json name)) (λ t. has_member t ms)) Text (n ∷ ns)
        ∙ all_same (λ name. is_some_and (as_text (out-Json (Text name))) (λ t. has_member t ms)) (λ name. has_member name ms) (λ name. ap (λ (x : Level Json). is_some_and (as_text x) (λ t. has_member t ms)) (json.outs-Text name)) (n ∷ ns)

    module _ (ps : List Property) (additional : Option Schema) (stand : first_named (codes "properties") schema ≡ unless_empty (written_properties ps)) where
      one_member : (m : Named X) → MeanOf (map (λ p. p.schema) ps ++ if_any additional) m.value
          → (is_none_or (first_named m.name (written_properties ps)) (smaller m.value) && is_none_or (additional_of additional) (λ v. other_admitted smaller schema v m)) ≡ member_holds means ps additional m
      one_member m h =
          ap₂ (λ (o : Option Json) (b : Bool). is_none_or o (smaller m.value) && is_none_or (additional_of additional) (λ v. b || (is_true (out-Json v) || smaller m.value v))) (property_named-is m.name ps) (is_property-is schema ps m.name stand)
          ∙ member_means ps additional m h (property_named m.name ps) refl

      each_member : (ms : List (Named X)) → AllByRecursion (λ m. MeanOf (map (λ p. p.schema) ps ++ if_any additional) m.value) ms
          → list_all (λ m. is_none_or (first_named m.name (written_properties ps)) (smaller m.value) && is_none_or (additional_of additional) (λ v. other_admitted smaller schema v m)) ms ≡ list_all (member_holds means ps additional) ms
      each_member [] h = refl
      each_member (m ∷ ms) h = ap₂ (λ (a b : Bool). a && b) (one_member m h.0) (each_member ms h.1)

    pub object_part : (ms : List (Named X)) (o : ObjectParts) → first_named (codes "properties") schema ≡ unless_empty (written_properties (out-ObjectParts o).properties)
        → AllByRecursion (λ m. MeanOf (object_schemas o) m.value) ms → rows smaller next value (Json-F.Object ms) schema (object_parts_written o) ≡ object_holds means ms o
    unfolding is_annotation bound_or part_of
    object_part ms o stand h =
        let q = out-ObjectParts o in
        ap (rows smaller next value (Json-F.Object ms) schema) (object_parts-are o)
        ∙ ap₂ (λ (a b : Bool). a && b) (properties_row q.properties ms)
        (ap₂ (λ (a b : Bool). a && b) (required_row q.required ms)
        (ap₂ (λ (a b : Bool). a && b) (others_row (additional_of q.additional) ms)
        (ap₂ (λ (a b : Bool). a && b) (least_part q.min (length ms)) (and-true (is_none_or (count_json q.max) (is_not_too_many (length ms))) ∙ most_part q.max (length ms)))))
        ∙ regrouped
        (list_all (λ m. is_none_or (first_named m.name (written_properties q.properties)) (smaller m.value)) ms)
        (list_all (λ name. has_member name ms) q.required)
        (list_all (λ m. is_none_or (additional_of q.additional) (λ v. other_admitted smaller schema v m)) ms)
        (count_holds q.min q.max (length ms))
        ∙ ap (λ b. b && (list_all (λ name. has_member name ms) q.required && count_holds q.min q.max (length ms)))
        (both_all (λ m. is_none_or (first_named m.name (written_properties q.properties)) (smaller m.value)) (λ m. is_none_or (additional_of q.additional) (λ v. other_admitted smaller schema v m)) ms
        ∙ each_member q.properties q.additional stand ms h)
