-- A written schema object admits what the parts of the schema ask, at a value whose smaller values agree.
use Rattle.std.proofs.Common.{◌≡◌, ℕ, Bool, true, false, ◌&&◌, ◌||◌, List, [], ◌∷◌, ◌++◌, length, ◌==◌, Option, Some, None, unwrap_or, bytes_eq, if◌then◌else◌, refl, sym, subst, ◌∙◌, ap, ap₂}
use Rattle.std.proofs.Math.Bool.{and-false}
use Rattle.std.specs.List.{list_any}
use Rattle.std.specs.Option.{option_map_or}
use Rattle.std.specs.Prelude.{codes}
use Rattle.schema_values.specs.declared.json_value.Json.{Json, Null as NullJson, Bool as Truth, List as ListOf, out-Json}
use Rattle.schema_values.specs.declared.json_value.Json.TheOpen.{Json-F}
use Rattle.schema_values.specs.declared.json_value.Json.TheVariants as json
use Rattle.schema_values.specs.declared.json_value.Json.TheViews.{roll-Json, roll-out-Json}
use Rattle.schema_values.specs.declared.schema.InstanceType.{InstanceType}
use Rattle.schema_values.specs.declared.schema.InstanceType.TheVariants.{Null, Boolean, Object, Array, Number, String, Integer}
use Rattle.schema_values.specs.declared.schema.InstanceTypes.{InstanceTypes}
use Rattle.schema_values.specs.declared.schema.InstanceTypes.TheVariants.{Single, Several}
use Rattle.schema_values.specs.declared.schema.Items.TheOpen.{Schema-F}
use Rattle.schema_values.specs.declared.schema.LengthBounds.{LengthBounds}
use Rattle.schema_values.specs.declared.schema.NumberBounds.{NumberBounds}
use Rattle.schema_values.specs.declared.schema.ArrayParts.{ArrayParts}
use Rattle.schema_values.specs.declared.schema.ObjectParts.{ObjectParts}
use Rattle.schema_values.specs.declared.schema.Schema.{Schema, out-Schema}
use Rattle.schema_values.specs.declared.schema.Subschemas.{Subschemas}
use Rattle.schema_values.specs.Parts.{Parts}
use Rattle.schema_values.specs.Same.{same_json}
use Rattle.openapi_values.specs.JsonAdmits.{schema_admits}
use Rattle.openapi_values.specs.Keywords.{is_annotation, bound_or, part_of}
use Rattle.openapi_values.specs.Levels.{Level, is_null, as_text, as_list, as_object}
use Rattle.openapi_values.specs.Lookup.{is_null_alone}
use Rattle.openapi_values.specs.Objects.{Entry, object_of, reference_json}
use Rattle.openapi_values.specs.Options.{is_none_or, is_some_and}
use Rattle.openapi_values.specs.Refusal.{types_refusal, values_refusal}
use Rattle.openapi_values.specs.SchemaJson.{annotations, const_values, values_of, values_json, nothing_entries, without_values, entries_behind, object_step, type_entries, type_name}
use Rattle.schema_meaning.specs.Accepted.{AreKept, AsksOfNoForm}
use Rattle.schema_meaning.specs.Asked.{is_of, is_of_types, format_holds, number_holds, length_holds, array_holds, object_holds, is_string, form_holds, subschemas_hold, all_of_is_read, parts_hold, parts_admit}
use Rattle.schema_meaning.specs.Reached.{combined_schemas, smaller_schemas}
use Rattle.schema_meaning.proofs.Behind.{both_behind, plain_behind, subschema_entries, subschemas_behind, no_subschema}
use Rattle.schema_meaning.proofs.Combined.{Agree, rows, rows-append, subschemas_agree}
use Rattle.schema_meaning.proofs.Entries.{value_named}
use Rattle.schema_meaning.proofs.Noted.{AreBehind, null_form, noted_admits}
use Rattle.schema_meaning.proofs.NotRefused.{Unrefused, has_one, nulls_beside, no_values, without_type, of_array, of_object}
use Rattle.schema_meaning.proofs.TypeEntries.{type_plain}
use Rattle.schema_meaning.proofs.TypeMeanings.{or_none, entries_of, members_for, listed, PartsMean, TypeMeans, boolean_means, string_means, integer_means, array_means, object_means, values_are}
use Rattle.schema_meaning.proofs.WrittenLevels.{level_of}

regrouped : (t v f s : Bool) → ((t && (v && f)) && s) ≡ (t && (v && (f && s)))
regrouped true true f s = refl
regrouped true false f s = refl
regrouped false v f s = refl

null_is : (v : Json) → out-Json v ≡ Json-F.Null → v ≡ NullJson
null_is v e = sym (roll-out-Json v) ∙ ap roll-Json e ∙ json.rolls-Null

no_values-is : (o : Option (List Json)) → without_values o ≡ true → o ≡ Some []
no_values-is None e = absurd (cc e)
no_values-is (Some []) e = refl
no_values-is (Some (v ∷ vs)) e = absurd (cc e)

nothing_behind : AreBehind nothing_entries true
unfolding is_annotation bound_or part_of
nothing_behind = record {
  read = ap (λ (x : Level Json). is_some_and (as_object x) (λ ms. length ms == 0) && true) (json.outs-Object []);
  no_reference = refl;
  no_null = refl;
}

module _ (given : Option (List ℕ)) (p : Parts) (kept : AreKept p) (right : Unrefused p) (value : Json) (smaller : Json → Json → Bool) (next : Json → Bool) (means : Json → Schema → Bool) (means_next : Schema → Bool)
    (no_truth : (x : Json) (b : Bool) → smaller x (Truth b) ≡ false) (truth_kept : (x : Json) (s : Schema) (b : Bool) → out-Schema s ≡ Schema-F.Bool b → means x s ≡ b) where
  abbrev Entries : Option InstanceTypes → List Entry
  Entries = entries_of given p kept value smaller next means no_truth truth_kept

  abbrev Listed : Bool
  Listed = listed given p kept value smaller next means no_truth truth_kept

  abbrev pub PartsOf : List Schema → Level Json → Type 0
  PartsOf = PartsMean given p kept value smaller next means no_truth truth_kept

  -- the values that are given are null alone
  abbrev Null_alone : Bool
  Null_alone = is_some_and p.enum_values is_null_alone

  abbrev Subschemas_hold : Bool
  Subschemas_hold = is_none_or p.subschemas (subschemas_hold means_next)

  -- the subschemas are read
  abbrev Subschemas_read : Bool
  Subschemas_read = is_none_or p.subschemas all_of_is_read

  -- the rows of some entries of the whole object
  abbrev rows_in : Option InstanceTypes → Level Json → List Entry → Bool
  rows_in t x = rows smaller next value x (members_for given p kept value smaller next means no_truth truth_kept t)

  abbrev null_or : Level Json → Bool → Bool
  null_or x b = p.nullable && is_null x || b

  -- what a type, or none, and the other parts ask, but for the null form
  abbrev each_part : Option InstanceTypes → Level Json → Bool
  each_part t x = is_none_or t (is_of_types x) && (Listed && (form_holds means x p && Subschemas_hold))

  abbrev asked : Option InstanceTypes → Level Json → Bool
  asked t x = if is_string t && Null_alone then is_null x else each_part t x

  asked-is : (t : Option InstanceTypes) (x : Level Json) → p.instance_type ≡ t → parts_hold means means_next value x p ≡ null_or x (asked t x)
  asked-is t x e =
      ap (λ (t : Option InstanceTypes). null_or x (if is_string t && Null_alone then is_null x else (is_none_or t (is_of_types x) && (Listed && (is_none_or p.const_value (same_json value) && (form_holds means x p && Subschemas_hold)))))) e
      ∙ ap (λ (o : Option Json). null_or x (if is_string t && Null_alone then is_null x else (is_none_or t (is_of_types x) && (Listed && (is_none_or o (same_json value) && (form_holds means x p && Subschemas_hold)))))) kept.no_const

  -- the object as it is written admits what is asked
  abbrev Outcome : Option InstanceTypes → Level Json → Type 0
  Outcome t x = null_or x (if null_form (Entries t) then is_null x else rows_in t x (Entries t)) ≡ null_or x (asked t x)

  module _ (agree : (s : Subschemas) → p.subschemas ≡ Some s → Agree next means_next (combined_schemas s)) (empty : (s : Subschemas) (t : Schema) → p.subschemas ≡ Some s → s.not ≡ Some t → means_next t ≡ true) where
    subschemas_part : (t : Option InstanceTypes) (x : Level Json) → rows_in t x (subschema_entries p.subschemas) ≡ Subschemas_hold
    subschemas_part t x = subschemas_agree smaller next value x (members_for given p kept value smaller next means no_truth truth_kept t) means_next p.subschemas agree empty

    by_rows : (type : InstanceType) (x : Level Json) → null_form (Entries (Some (Single type))) ≡ false → (is_string (Some (Single type)) && Null_alone) ≡ false → TypeMeans given p kept value smaller next means no_truth truth_kept type → PartsOf (smaller_schemas (Some (Single type)) p) x → Outcome (Some (Single type)) x
    by_rows type x form other means_type parts =
        ap (λ b. null_or x (if b then is_null x else rows_in (Some (Single type)) x (Entries (Some (Single type))))) form
        ∙ ap (λ b. null_or x b)
        (rows-append smaller next value x (members_for given p kept value smaller next means no_truth truth_kept (Some (Single type))) (type_entries (Some (Single type)) (level_of p)) (subschema_entries p.subschemas)
        ∙ ap₂ (λ (a b : Bool). a && b) (means_type x parts) (subschemas_part (Some (Single type)) x)
        ∙ regrouped (is_of x type) Listed (form_holds means x p) Subschemas_hold)
        ∙ ap (λ b. null_or x (if b then is_null x else each_part (Some (Single type)) x)) (sym other)

    -- ---- without a type

    form_true : (x : Level Json) → p.instance_type ≡ None → AsksOfNoForm p → form_holds means x p ≡ true
    form_true Json-F.Null e a = refl
    form_true (Json-F.Bool b) e a = refl
    form_true (Json-F.Int n) e a = ap₂ (λ (t : Option InstanceTypes) (o : Option NumberBounds). format_holds t p.format n && is_none_or o (number_holds n)) e a.no_number
    form_true (Json-F.Text t) e a = ap (λ (o : Option LengthBounds). is_none_or o (length_holds t)) a.no_string
    form_true (Json-F.List xs) e a = ap (λ (o : Option ArrayParts). is_none_or o (array_holds means xs)) a.no_array
    form_true (Json-F.Object ms) e a = ap (λ (o : Option ObjectParts). is_none_or o (object_holds means ms)) a.no_object

    all_listed : p.enum_values ≡ None → Listed ≡ true
    all_listed none = ap (λ (o : Option (List Json)). is_none_or o (list_any (same_json value))) none

    without_any : (x : Level Json) → p.instance_type ≡ None → p.enum_values ≡ None → Outcome None x
    without_any x e none =
        ap (λ (o : Option Json). null_or x (if (is_some_and o (λ s. is_some_and (as_text (out-Json s)) (λ name. bytes_eq name (codes "string"))) && is_some_and (value_named (codes "enum") (Entries None)) (λ s. is_some_and (as_list (out-Json s)) is_null_alone)) then is_null x else rows_in None x (Entries None)))
        (no_subschema (codes "type") p.subschemas refl refl refl refl)
        ∙ ap (λ b. null_or x b) (subschemas_part None x)
        ∙ ap₂ (λ (a b : Bool). null_or x (a && (b && Subschemas_hold))) (sym (all_listed none)) (sym (form_true x e (kept.typed e)))

    -- ---- a type whose name is not that of texts

    other_form : (type : InstanceType) → bytes_eq (type_name type) (codes "string") ≡ false → null_form (Entries (Some (Single type))) ≡ false
    other_form type other =
        ap (λ (x : Level Json). is_some_and (as_text x) (λ name. bytes_eq name (codes "string")) && is_some_and (value_named (codes "enum") (Entries (Some (Single type)))) (λ s. is_some_and (as_list (out-Json s)) is_null_alone)) (json.outs-Text (type_name type))
        ∙ ap (λ b. b && is_some_and (value_named (codes "enum") (Entries (Some (Single type)))) (λ s. is_some_and (as_list (out-Json s)) is_null_alone)) other

    string_form : (type : InstanceType) → bytes_eq (type_name type) (codes "string") ≡ true → null_form (Entries (Some (Single type))) ≡ is_some_and (value_named (codes "enum") (Entries (Some (Single type)))) (λ s. is_some_and (as_list (out-Json s)) is_null_alone)
    string_form type same =
        ap (λ (x : Level Json). is_some_and (as_text x) (λ name. bytes_eq name (codes "string")) && is_some_and (value_named (codes "enum") (Entries (Some (Single type)))) (λ s. is_some_and (as_list (out-Json s)) is_null_alone)) (json.outs-Text (type_name type))
        ∙ ap (λ b. b && is_some_and (value_named (codes "enum") (Entries (Some (Single type)))) (λ s. is_some_and (as_list (out-Json s)) is_null_alone)) same

    -- ---- the type of null

    alone : is_some_and (as_list (out-Json (ListOf (NullJson ∷ [])))) is_null_alone ≡ true
    alone = ap (λ (x : Level Json). is_some_and (as_list x) is_null_alone) (json.outs-List (NullJson ∷ [])) ∙ ap is_null json.outs-Null

    null_formed : null_form (Entries (Some (Single Null))) ≡ true
    null_formed =
        string_form Null refl
        ∙ ap (λ (o : Option Json). is_some_and (as_list (out-Json (ListOf (unwrap_or (const_values o) (NullJson ∷ []))))) is_null_alone) kept.no_const
        ∙ alone

    nulls_listed : (o : Option (List Json)) → without_values o ≡ false → values_refusal (Some (Single Null)) (unwrap_or o []) ≡ None → value ≡ NullJson → is_none_or o (list_any (same_json value)) ≡ true
    nulls_listed None some h e = refl
    nulls_listed (Some []) some h e = absurd (cc some)
    nulls_listed (Some (v ∷ vs)) some h e = ap₂ (λ (a b : Json). same_json a b || list_any (same_json value) vs) e (null_is v (nulls_beside v vs h).0)

    null_asked : (x : Level Json) → out-Json value ≡ x → p.subschemas ≡ None → without_values p.enum_values ≡ false → values_refusal (Some (Single Null)) (unwrap_or p.enum_values []) ≡ None → is_null x ≡ asked (Some (Single Null)) x
    null_asked Json-F.Null e none some h = ap₂ (λ (a b : Bool). a && b) (sym (nulls_listed p.enum_values some h (null_is value e))) (ap (λ (o : Option Subschemas). is_none_or o (subschemas_hold means_next)) (sym none))
    null_asked (Json-F.Bool b) e none some h = refl
    null_asked (Json-F.Int n) e none some h = refl
    null_asked (Json-F.Text t) e none some h = refl
    null_asked (Json-F.List xs) e none some h = refl
    null_asked (Json-F.Object ms) e none some h = refl

    of_null : (x : Level Json) → out-Json value ≡ x → p.instance_type ≡ Some (Single Null) → without_values p.enum_values ≡ false → values_refusal (Some (Single Null)) (unwrap_or p.enum_values []) ≡ None → Outcome (Some (Single Null)) x
    of_null x e type some h =
        ap (λ b. null_or x (if b then is_null x else rows_in (Some (Single Null)) x (Entries (Some (Single Null))))) null_formed
        ∙ ap (λ b. null_or x b) (null_asked x e (kept.null_alone type) some h)

    -- ---- a text

    values_form : (o : Option (List Json)) → is_some_and (values_json o) (λ s. is_some_and (as_list (out-Json s)) is_null_alone) ≡ is_some_and o is_null_alone
    values_form None = refl
    values_form (Some vs) = ap (λ (x : Level Json). is_some_and (as_list x) is_null_alone) (json.outs-List vs)

    texts_form : null_form (Entries (Some (Single String))) ≡ Null_alone
    texts_form =
        string_form String refl
        ∙ ap (λ (o : Option Json). is_some_and o (λ s. is_some_and (as_list (out-Json s)) is_null_alone))
        (or_none (values_json (values_of p.const_value p.enum_values)) (value_named (codes "enum") (subschema_entries p.subschemas)) (no_subschema (codes "enum") p.subschemas refl refl refl refl)
        ∙ ap values_json (values_are given p kept value smaller next means no_truth truth_kept))
        ∙ values_form p.enum_values

    of_text : (x : Level Json) → PartsOf [] x → (b : Bool) → Null_alone ≡ b → Outcome (Some (Single String)) x
    of_text x parts true h =
        ap (λ b. null_or x (if b then is_null x else rows_in (Some (Single String)) x (Entries (Some (Single String))))) (texts_form ∙ h)
        ∙ ap (λ b. null_or x (if b then is_null x else each_part (Some (Single String)) x)) (sym h)
    of_text x parts false h = by_rows String x (texts_form ∙ h) h (string_means given p kept value smaller next means no_truth truth_kept) parts

    -- ---- each type

    by_type : (t : Option InstanceTypes) → p.instance_type ≡ t → (x : Level Json) → out-Json value ≡ x → without_values p.enum_values ≡ false → PartsOf (smaller_schemas t p) x → Outcome t x
    by_type None e x f some parts = without_any x e (no_values None p.enum_values without_type some (subst (λ (t : Option InstanceTypes). values_refusal t (unwrap_or p.enum_values []) ≡ None) e right.values_right))
    by_type (Some (Several types)) e x f some parts = absurd (let w : types_refusal (Some (Several types)) ≡ None = subst (λ (t : Option InstanceTypes). types_refusal t ≡ None) e right.one_type in cc w)
    by_type (Some (Single Number)) e x f some parts = absurd (let w : types_refusal (Some (Single Number)) ≡ None = subst (λ (t : Option InstanceTypes). types_refusal t ≡ None) e right.one_type in cc w)
    by_type (Some (Single Null)) e x f some parts = of_null x f e some (subst (λ (t : Option InstanceTypes). values_refusal t (unwrap_or p.enum_values []) ≡ None) e right.values_right)
    by_type (Some (Single Boolean)) e x f some parts = by_rows Boolean x (other_form Boolean refl) refl (boolean_means given p kept value smaller next means no_truth truth_kept) parts
    by_type (Some (Single String)) e x f some parts = of_text x parts Null_alone refl
    by_type (Some (Single Integer)) e x f some parts = by_rows Integer x (other_form Integer refl) refl (integer_means given p kept value smaller next means no_truth truth_kept e right.bounds_right) parts
    by_type (Some (Single Array)) e x f some parts =
        by_rows Array x (other_form Array refl) refl
        (array_means given p kept value smaller next means no_truth truth_kept (has_one p e right.has_items)
        (no_values (Some (Single Array)) p.enum_values of_array some (subst (λ (t : Option InstanceTypes). values_refusal t (unwrap_or p.enum_values []) ≡ None) e right.values_right)))
        parts
    by_type (Some (Single Object)) e x f some parts =
        by_rows Object x (other_form Object refl) refl
        (object_means given p kept value smaller next means no_truth truth_kept (no_values (Some (Single Object)) p.enum_values of_object some (subst (λ (t : Option InstanceTypes). values_refusal t (unwrap_or p.enum_values []) ≡ None) e right.values_right)))
        parts

  -- ---- the whole object

  behind : (t : Option InstanceTypes) → AreBehind (Entries t) Subschemas_read
  behind t =
      both_behind (type_entries t (level_of p)) (subschema_entries p.subschemas) (plain_behind (type_entries t (level_of p)) (type_plain t p))
      (subschemas_behind p.subschemas kept.subschemas_kept)

  nothing_asked : (x : Level Json) → p.enum_values ≡ Some [] → asked p.instance_type x ≡ false
  nothing_asked x e =
      ap (λ (o : Option (List Json)). if is_string p.instance_type && is_some_and o is_null_alone then is_null x else (is_none_or p.instance_type (is_of_types x) && (is_none_or o (list_any (same_json value)) && (form_holds means x p && Subschemas_hold)))) e
      ∙ ap (λ b. if b then is_null x else (is_none_or p.instance_type (is_of_types x) && false)) (and-false (is_string p.instance_type))
      ∙ and-false (is_none_or p.instance_type (is_of_types x))

  -- what stands inside the object agrees
  pub record InsideAgrees (x : Level Json) : Type 0 where
    pub agree : (s : Subschemas) → p.subschemas ≡ Some s → Agree next means_next (combined_schemas s)
    pub empty : (s : Subschemas) (t : Schema) → p.subschemas ≡ Some s → s.not ≡ Some t → means_next t ≡ true
    pub parts : PartsOf (smaller_schemas p.instance_type p) x

  module _ (doc : Json) (x : Level Json) (is : out-Json value ≡ x) where
    abbrev admitted : List Entry → Bool
    admitted es = schema_admits doc smaller next value x (object_of (annotations given p ++ es))

    by_values : (b : Bool) → without_values p.enum_values ≡ b → (b ≡ false → InsideAgrees x) → admitted (if b then nothing_entries else Entries p.instance_type) ≡ ((b || Subschemas_read) && parts_hold means means_next value x p)
    unfolding is_annotation bound_or part_of
    by_values true e inside =
        noted_admits given p nothing_entries doc smaller next value x nothing_behind
        ∙ ap (λ b. null_or x b) (sym (nothing_asked x (no_values-is p.enum_values e)))
        ∙ sym (asked-is p.instance_type x refl)
    by_values false e inside =
        let agrees = inside refl in
        noted_admits given p (Entries p.instance_type) doc smaller next value x (behind p.instance_type)
        ∙ ap (λ b. Subschemas_read && b) (by_type agrees.agree agrees.empty p.instance_type refl x is e agrees.parts ∙ sym (asked-is p.instance_type x refl))

    pub object_admits : p.reference ≡ None → (without_values p.enum_values ≡ false → InsideAgrees x) → schema_admits doc smaller next value x (object_step (level_of p) given) ≡ parts_admit means means_next value x p
    object_admits none inside =
        ap (λ (r : Option (List ℕ)). schema_admits doc smaller next value x (option_map_or reference_json r (object_of (annotations given p ++ entries_behind (level_of p))))) none
        ∙ by_values (without_values p.enum_values) refl inside
