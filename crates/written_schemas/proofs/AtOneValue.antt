-- At one value whose smaller values agree: each form of descriptor agrees with its schema.
use Rattle.std.proofs.Common.{◌≡◌, ℕ, zero, suc, ◌≤◌, Bool, true, false, ◌&&◌, ◌||◌, List, [], ◌∷◌, ◌++◌, map, length, Option, Some, None, is_ok, codes, cond, count_by, ◌==◌, refl, sym, ◌∙◌, ap, arith}
use Rattle.std.proofs.Math.Bool.{and-true, or-false, or-true}
use Rattle.std.specs.List.{list_all, list_any, AllByRecursion}
use Rattle.std.specs.Option.{option_map_or}
use Rattle.std.specs.Prelude.{Contains, ⊤}
use Rattle.schema_values.specs.declared.json_value.Json.{Json, out-Json, Bool as Truth, List as Items, Object}
use Rattle.schema_values.specs.declared.json_value.Json.TheOpen.{Json-F}
use Rattle.schema_values.specs.declared.json_value.Json.TheVariants as json
use Rattle.schema_values.specs.declared.json_value.Member.{Member}
use Rattle.schema_values.specs.Member.{name_of, member}
use Rattle.schema_values.specs.Sound.{AreDistinct}
use Rattle.openapi_values.specs.Levels.{Level, is_null, is_true, as_object}
use Rattle.openapi_values.specs.Lookup.{definition as schema_of_name}
use Rattle.openapi_values.specs.Options.{is_some_and}
use Rattle.openapi_values.specs.JsonAdmits.{members_admit, schema_admits, admits_within}
use Rattle.openapi_values.specs.Smaller.{smaller_admits}
use Rattle.openapi_values.proofs.CallerLemmas.{admits-zero, admits-suc}
use Rattle.descriptors.specs.declared.desc.Desc.{Desc}
use Rattle.descriptors.specs.declared.desc.Field.{Field}
use Rattle.descriptors.specs.declared.desc.Named.{Named}
use Rattle.descriptors.specs.declared.table.Definition.{Definition}
use Rattle.typed_values.specs.Bounds.{is_length_within}
use Rattle.descriptors.specs.Definitions.{field_name, listed_name}
use Rattle.typed_values.specs.Denotes.{Told, told, one_of_names, member_name, optional, first_told}
use Rattle.typed_values.specs.DescBeside.{field_with}
use Rattle.schema_values.specs.Order.{sorted_by, same_name}
use Rattle.typed_values.specs.Rows.{told_item, list_row, map_row, struct_row}
use Rattle.typed_values.specs.SchemaTable.{Drawn, Remarks, annotations, default_of, defaulted, no_remarks, plain, reference, drawn, drawn_json, described, property_of, enumerated, is_described, described_choice, choices_of, enumeration, other_members, schema_json, schema_json_described}
use Rattle.schema_values.proofs.CallerLemmas.{contains_first, contains_later}
use Rattle.typed_values.proofs.CallerLemmas.{ok_below, ok_just, ok_items, ok_entries, ok_first, IsNeeded, two_maps}
use Rattle.written_schemas.proofs.Notes.{noted, before_members}
use Rattle.written_schemas.proofs.Composites.{is_list_of, wrapped_admits, reference_admits, choice_admits, one_admitted}
use Rattle.written_schemas.proofs.Counted.{count, one_counted}
use Rattle.written_schemas.proofs.Forms.{field_property, names_required, properties_drawn}
use Rattle.written_schemas.proofs.Enumerations.{enumerated_is, is_named, named_once, names_admit, ok_named, choices_counted}
use Rattle.written_schemas.proofs.Maps.{is_map_of, as_other}
use Rattle.written_schemas.proofs.Sorted.{all_sorted}
use Rattle.written_schemas.proofs.Structs.{is_struct_of}
use Rattle.written_schemas.proofs.Fields.{AgreesOn, struct_agrees}

module _ (table : List Definition) (whole : Desc) (doc : Json) (q : ℕ) where
  -- a schema admits null beside where an annotation says so, and else what denotes a tree
  abbrev pub AgreesAt : Json → ℕ → Desc → Type 0
  AgreesAt j m d = (extra : Bool) (t : Option (List ℕ)) (s : Remarks)
      → admits_within doc q j m (drawn_json (noted (extra || (drawn table d).nullable) t s (drawn table d))) ≡ (extra && is_null (out-Json j) || is_ok (told table whole j d))

  abbrev pub Agrees : Json → Type 0
  Agrees j = (d : Desc) → IsNeeded table whole d → AgreesAt j q d

  -- the smaller values agree
  abbrev pub Below : Json-F Json Member → Type 0
  Below (Json-F.List js) = AllByRecursion Agrees js
  Below (Json-F.Object ms) = AllByRecursion (λ m. Agrees m.value) ms × AreDistinct (map name_of ms)
  Below _ = ⊤

  pub plainly : (j : Json) (m : ℕ) (d : Desc) → AgreesAt j m d → admits_within doc q j m (schema_json table d) ≡ is_ok (told table whole j d)
  plainly j m d agree = agree false (drawn table d).title (drawn table d).remarks

  -- whatever its description and its default
  under_remarks : (j : Json) (m : ℕ) (d : Desc) (default : Option Json) (text : Option (List ℕ)) → AgreesAt j m d
      → admits_within doc q j m (drawn_json (defaulted default (described text (drawn table d)))) ≡ is_ok (told table whole j d)
  under_remarks j m d None None agree = plainly j m d agree
  under_remarks j m d None (Some text) agree = agree false (drawn table d).title (record (drawn table d).remarks { description = Some text })
  under_remarks j m d (Some value) None agree = agree false (drawn table d).title (record (drawn table d).remarks { default = Some value })
  under_remarks j m d (Some value) (Some text) agree = agree false (drawn table d).title (record { description = Some text; default = Some value })

  nothing_admitted : (j : Json) (m : ℕ) → admits_within doc q j m (Truth false) ≡ false
  nothing_admitted j zero = admits-zero doc q j (Truth false)
  nothing_admitted j (suc m) =
      admits-suc doc q j m (Truth false)
      ∙ ap (λ (x : Level Json). is_some_and (as_object x) (members_admit doc (smaller_admits doc q) (admits_within doc q j m) j (out-Json j))) (json.outs-Bool false)

  -- annotations come before the members
  noted_plain : (d : Desc) (extra : Bool) (t : Option (List ℕ)) (s : Remarks) (truth : Option Bool) (ms : List Member) → drawn table d ≡ record (plain ms) { truth = truth }
      → drawn_json (noted (extra || (drawn table d).nullable) t s (drawn table d)) ≡ Object (annotations extra t s ++ ms)
  noted_plain d extra t s truth ms e =
      ap (λ (x : Drawn). drawn_json (noted (extra || x.nullable) t s x)) e
      ∙ ap (λ (n : Bool). drawn_json (noted n t s (plain ms))) (or-false extra)
      ∙ ap Object (before_members (annotations extra t s) ms)

  -- each field agrees at values where all that is needed does
  abbrev pub FieldsAgree : List Field → Type 0
  FieldsAgree fs = (f : Field) → Contains fs f → (v : Json) → Agrees v → AgreesAt v q f.desc

  module _ (j : Json) where
    -- a schema whose members say nothing of other schemas at this value
    pub leaf : (d : Desc) (truth : Option Bool) (ms : List Member) (row : Bool) → drawn table d ≡ record (plain ms) { truth = truth }
        → ((next : Json → Bool) (extra : Bool) (t : Option (List ℕ)) (s : Remarks) → schema_admits doc (smaller_admits doc q) next j (out-Json j) (Object (annotations extra t s ++ ms)) ≡ (extra && is_null (out-Json j) || row))
        → row ≡ is_ok (told table whole j d) → (m : ℕ) → 1 ≤ m → AgreesAt j m d
    leaf d truth ms row e rows same zero le = absurd (omega arith)
    leaf d truth ms row e rows same (suc k) le = λ extra t s.
        ap (admits_within doc q j (suc k)) (noted_plain d extra t s truth ms e)
        ∙ admits-suc doc q j k (Object (annotations extra t s ++ ms))
        ∙ rows (admits_within doc q j k) extra t s
        ∙ ap (λ (b : Bool). extra && is_null (out-Json j) || b) same

    items_agree : (x : Desc) → IsNeeded table whole x → (js : List Json) → AllByRecursion Agrees js
        → list_all (λ v. smaller_admits doc q v (schema_json table x)) js ≡ list_all (λ v. is_ok (told table whole v x)) js
    items_agree x need [] h = refl
    items_agree x need (v ∷ js) h =
        ap (λ (b : Bool). b && list_all (λ v. smaller_admits doc q v (schema_json table x)) js) (plainly v q x (h.0 x need))
        ∙ ap (λ (b : Bool). is_ok (told table whole v x) && b) (items_agree x need js h.1)

    pub list_agrees : (x : Desc) (min max : Option ℕ) → IsNeeded table whole x → (y : Json-F Json Member) → Below y
        → is_list_of (λ v. smaller_admits doc q v (schema_json table x)) min max y ≡ is_ok (list_row table whole x min max y)
    list_agrees x min max need Json-F.Null h = refl
    list_agrees x min max need (Json-F.Bool b) h = refl
    list_agrees x min max need (Json-F.Int i) h = refl
    list_agrees x min max need (Json-F.Text w) h = refl
    list_agrees x min max need (Json-F.List js) h =
        ap (λ (b : Bool). b && is_length_within min max (length js)) (items_agree x need js h)
        ∙ sym (ok_items (told_item table whole x) (λ v. is_ok (told table whole v x)) (λ i v. ok_below _ (told table whole v x)) min max js)
    list_agrees x min max need (Json-F.Object ms) h = refl

    -- what the values of a map are: a truth value that tells what each denotes, or the schema of each
    module _ (x : Desc) (need : IsNeeded table whole x) (tells : (b : Bool) → (drawn table x).truth ≡ Some b → (v : Json) → is_ok (told table whole v x) ≡ b) where
      abbrev others : Option Bool → Json
      others truth = option_map_or Truth truth (drawn_json (drawn table x))

      other_agrees : (truth : Option Bool) → (drawn table x).truth ≡ truth → (v : Json) → Agrees v → as_other (smaller_admits doc q) (others truth) v ≡ is_ok (told table whole v x)
      other_agrees None e v h = ap (λ (y : Level Json). is_true y || smaller_admits doc q v (drawn_json (drawn table x))) (json.outs-Object _) ∙ plainly v q x (h x need)
      other_agrees (Some true) e v h = ap (λ (y : Level Json). is_true y || smaller_admits doc q v (Truth true)) (json.outs-Bool true) ∙ sym (tells true e v)
      other_agrees (Some false) e v h = ap (λ (y : Level Json). is_true y || smaller_admits doc q v (Truth false)) (json.outs-Bool false) ∙ nothing_admitted v q ∙ sym (tells false e v)

      others_agree : (ms : List Member) → AllByRecursion (λ m. Agrees m.value) ms
          → list_all (λ m. as_other (smaller_admits doc q) (other_members (drawn table x)) m.value) ms ≡ list_all (λ m. is_ok (told table whole m.value x)) ms
      others_agree [] h = refl
      others_agree (m ∷ ms) h =
          ap (λ (b : Bool). b && list_all (λ m. as_other (smaller_admits doc q) (other_members (drawn table x)) m.value) ms) (other_agrees (drawn table x).truth refl m.value h.0)
          ∙ ap (λ (b : Bool). is_ok (told table whole m.value x) && b) (others_agree ms h.1)

      pub map_agrees : (y : Json-F Json Member) → Below y → is_map_of (as_other (smaller_admits doc q) (other_members (drawn table x))) y ≡ is_ok (map_row table whole x y)
      map_agrees Json-F.Null h = refl
      map_agrees (Json-F.Bool b) h = refl
      map_agrees (Json-F.Int i) h = refl
      map_agrees (Json-F.Text w) h = refl
      map_agrees (Json-F.List js) h = refl
      map_agrees (Json-F.Object ms) h =
          others_agree ms h.0
          ∙ sym (all_sorted member_name (λ m. is_ok (told table whole m.value x)) ms)
          ∙ sym (ok_entries (λ v. told table whole v x) ms)

    values_agree : (fs : List Field) → FieldsAgree fs → (ms : List Member) → AllByRecursion (λ m. Agrees m.value) ms → AllByRecursion (λ m. AgreesOn table whole (smaller_admits doc q) fs m.value) ms
    values_agree fs each [] h = tt
    values_agree fs each (m ∷ ms) h = (λ f c. under_remarks m.value q f.desc (default_of table f.presence f.desc) f.description (each f c m.value h.0), values_agree fs each ms h.1)

    pub object_agrees : (fs : List Field) (deny : Bool) → AreDistinct (map field_name fs) → FieldsAgree fs → (y : Json-F Json Member) → Below y
        → is_struct_of (smaller_admits doc q) (sorted_by name_of (properties_drawn table fs)) (sorted_by same_name (names_required table fs)) deny y ≡ is_ok (struct_row table whole fs deny y)
    object_agrees fs deny once each Json-F.Null h = refl
    object_agrees fs deny once each (Json-F.Bool b) h = refl
    object_agrees fs deny once each (Json-F.Int i) h = refl
    object_agrees fs deny once each (Json-F.Text w) h = refl
    object_agrees fs deny once each (Json-F.List js) h = refl
    object_agrees fs deny once each (Json-F.Object ms) h =
        ap (λ (ps : List Member). is_struct_of (smaller_admits doc q) (sorted_by name_of ps) (sorted_by same_name (names_required table fs)) deny (Json-F.Object ms)) (two_maps (property_of table) (field_with (drawn table)) (field_property table) (λ f. refl) fs)
        ∙ struct_agrees table whole (smaller_admits doc q) fs deny ms once h.1 (values_agree fs each ms h.0) (λ v. nothing_admitted v q)

    some_agree : (next : Json → Bool) (ds : List Desc) → ((x : Desc) → Contains ds x → next (schema_json table x) ≡ is_ok (told table whole j x))
        → list_any next (map (schema_json table) ds) ≡ list_any (λ x. is_ok (told table whole j x)) ds
    some_agree next [] h = refl
    some_agree next (x ∷ ds) h =
        ap (λ (b : Bool). b || list_any next (map (schema_json table) ds)) (h x (contains_first x ds))
        ∙ ap (λ (b : Bool). is_ok (told table whole j x) || b) (some_agree next ds (λ y c. h y (contains_later x ds y c)))

    pub choice_agrees : (d : Desc) (ds : List Desc) (k : ℕ) → drawn table d ≡ plain (member (codes "anyOf") (Items (map (schema_json table) ds)) ∷ []) → told table whole j d ≡ first_told 0 (told table whole j) ds
        → ((x : Desc) → Contains ds x → AgreesAt j k x) → AgreesAt j (suc k) d
    choice_agrees d ds k e f each extra t s =
        ap (admits_within doc q j (suc k)) (noted_plain d extra t s None _ e)
        ∙ admits-suc doc q j k _
        ∙ choice_admits doc (smaller_admits doc q) (admits_within doc q j k) j extra t s (out-Json j) (map (schema_json table) ds)
        ∙ ap (λ (b : Bool). extra && is_null (out-Json j) || b)
        (and-true (list_any (admits_within doc q j k) (map (schema_json table) ds)) ∙ some_agree (admits_within doc q j k) ds (λ x c. plainly j k x (each x c)) ∙ sym (ok_first (told table whole j) 0 ds) ∙ ap (λ (o : Told). is_ok o) (sym f))

    -- exactly one of some schemas, of which no two admit the value
    pub one_agrees : (d : Desc) (ss : List Json) (k : ℕ) (some : Bool) → drawn table d ≡ plain (member (codes "oneOf") (Items ss) ∷ []) → count_by (admits_within doc q j k) ss ≡ count some
        → some ≡ is_ok (told table whole j d) → AgreesAt j (suc k) d
    one_agrees d ss k some e counted same extra t s =
        ap (admits_within doc q j (suc k)) (noted_plain d extra t s None _ e)
        ∙ admits-suc doc q j k _
        ∙ one_admitted doc (smaller_admits doc q) (admits_within doc q j k) j extra t s (out-Json j) ss
        ∙ ap (λ (b : Bool). extra && is_null (out-Json j) || b) (and-true (count_by (admits_within doc q j k) ss == 1) ∙ ap (λ (k : ℕ). k == 1) counted ∙ one_counted some ∙ same)

    one_list : (k : ℕ) (names : List (List ℕ)) → admits_within doc q j (suc k) (drawn_json (enumerated names)) ≡ list_any (is_named (out-Json j)) names
    one_list k names = ap (λ (x : Drawn). admits_within doc q j (suc k) (drawn_json x)) (enumerated_is names) ∙ admits-suc doc q j k _ ∙ names_admit doc (smaller_admits doc q) (admits_within doc q j k) j false None no_remarks names

    one_name : (k : ℕ) (n : Named) → admits_within doc q j (suc k) (described_choice n) ≡ is_named (out-Json j) n.name
    one_name k n = by_text n.description
      where
        by_text : (text : Option (List ℕ)) → admits_within doc q j (suc k) (drawn_json (described text (enumerated (n.name ∷ [])))) ≡ is_named (out-Json j) n.name
        by_text None = one_list k (n.name ∷ []) ∙ or-false _
        by_text (Some text) = admits-suc doc q j k _ ∙ names_admit doc (smaller_admits doc q) (admits_within doc q j k) j false None (record no_remarks { description = Some text }) (n.name ∷ []) ∙ or-false _

    -- one choice admits a name that is listed, and none any other
    pub names_counted : (ns : List Named) → AreDistinct (map listed_name ns) → (k : ℕ) → count_by (admits_within doc q j (suc k)) (choices_of ns) ≡ count (list_any (is_named (out-Json j)) (map listed_name ns))
    names_counted ns once k = choices_counted (is_named (out-Json j)) (named_once (out-Json j)) (admits_within doc q j (suc k)) (one_list k) (one_name k) ns once

    -- an enumeration without descriptions is one list of names, and any other a choice of such lists
    module _ (d : Desc) (ns : List Named) (same : told table whole j d ≡ one_of_names ns (out-Json j)) (once : AreDistinct (map listed_name ns)) where
      named : list_any (is_named (out-Json j)) (map listed_name ns) ≡ is_ok (told table whole j d)
      named = sym (ok_named ns (out-Json j)) ∙ ap (λ (o : Told). is_ok o) (sym same)

      pub plain_names : drawn table d ≡ enumerated (map listed_name ns) → (m : ℕ) → 1 ≤ m → AgreesAt j m d
      plain_names e = leaf d None _ _ (e ∙ enumerated_is (map listed_name ns)) (λ next extra t s. names_admit doc (smaller_admits doc q) next j extra t s (map listed_name ns)) named

      described_names : drawn table d ≡ plain (member (codes "oneOf") (Items (choices_of ns)) ∷ []) → (k : ℕ) → AgreesAt j (suc (suc k)) d
      described_names e k =
          one_agrees d (choices_of ns) (suc k) (list_any (is_named (out-Json j)) (map listed_name ns)) e (names_counted ns once k) named

      pub enumeration_agrees : drawn table d ≡ enumeration ns → (m : ℕ) → 2 ≤ m → AgreesAt j m d
      enumeration_agrees e zero le = absurd (omega (arith, le))
      enumeration_agrees e (suc zero) le = absurd (omega (arith, le))
      enumeration_agrees e (suc (suc k)) le = by_test (list_any is_described ns) e
        where
          by_test : (b : Bool) → drawn table d ≡ cond b (plain (member (codes "oneOf") (Items (choices_of ns)) ∷ [])) (enumerated (map listed_name ns)) → AgreesAt j (suc (suc k)) d
          by_test true e = described_names e k
          by_test false e = plain_names e (suc (suc k)) (omega arith)

    null_or : (y : Json-F Json Member) (o : Told) → is_ok (optional y o) ≡ (is_null y || is_ok o)
    null_or Json-F.Null o = refl
    null_or (Json-F.Bool b) o = ok_just o
    null_or (Json-F.Int i) o = ok_just o
    null_or (Json-F.Text w) o = ok_just o
    null_or (Json-F.List js) o = ok_just o
    null_or (Json-F.Object ms) o = ok_just o

    null_twice : (a n k : Bool) → (n || k) ≡ (a && n || (n || k))
    null_twice true true k = refl
    null_twice true false k = refl
    null_twice false n k = refl

    pub option_agrees : (d x : Desc) (m : ℕ) → drawn table d ≡ record (drawn table x) { nullable = true; truth = None } → told table whole j d ≡ optional (out-Json j) (told table whole j x) → AgreesAt j m x → AgreesAt j m d
    option_agrees d x m e f agree extra t s =
        ap (λ (y : Drawn). admits_within doc q j m (drawn_json (noted (extra || y.nullable) t s y))) e
        ∙ ap (λ (n : Bool). admits_within doc q j m (drawn_json (noted n t s (drawn table x)))) (or-true extra)
        ∙ agree true t s
        ∙ null_twice extra (is_null (out-Json j)) (is_ok (told table whole j x))
        ∙ ap (λ (b : Bool). extra && is_null (out-Json j) || b) (sym (null_or (out-Json j) (told table whole j x)) ∙ ap (λ (o : Told). is_ok o) (sym f))

    module _ (d : Desc) (name : List ℕ) (e : Definition) (refers : drawn table d ≡ reference name) (defined : schema_of_name doc name ≡ Some (schema_json_described table e.description e.desc)) (same : told table whole j d ≡ told table whole j e.desc) where
      alone : (k : ℕ) → AgreesAt j k e.desc → admits_within doc q j (suc k) (Object (reference name).members) ≡ is_ok (told table whole j d)
      alone k agree =
          admits-suc doc q j k (Object (reference name).members)
          ∙ reference_admits doc (smaller_admits doc q) (admits_within doc q j k) j (out-Json j) name
          ∙ ap (λ (o : Option Json). is_some_and o (admits_within doc q j k)) defined
          ∙ under_remarks j k e.desc None e.description agree
          ∙ ap (λ (o : Told). is_ok o) (sym same)

      wrapped : (k : ℕ) → AgreesAt j k e.desc → (n : Bool) (t : Option (List ℕ)) (s : Remarks)
          → admits_within doc q j (suc (suc k)) (Object (annotations n t s ++ member (codes "allOf") (Items (Object (reference name).members ∷ [])) ∷ [])) ≡ (n && is_null (out-Json j) || is_ok (told table whole j d))
      wrapped k agree n t s =
          admits-suc doc q j (suc k) _
          ∙ wrapped_admits doc (smaller_admits doc q) (admits_within doc q j (suc k)) j n t s (out-Json j) (Object (reference name).members)
          ∙ ap (λ (b : Bool). n && is_null (out-Json j) || b) (and-true _ ∙ and-true _ ∙ alone k agree)

      by_notes : (k : ℕ) → AgreesAt j k e.desc → AgreesAt j (suc k) e.desc → (n : Bool) (t : Option (List ℕ)) (s : Remarks)
          → admits_within doc q j (suc (suc k)) (drawn_json (noted n t s (reference name))) ≡ (n && is_null (out-Json j) || is_ok (told table whole j d))
      by_notes k agree more n t s = by_cases n t s.description s.default
        where
          by_cases : (n : Bool) (t text : Option (List ℕ)) (value : Option Json)
              → admits_within doc q j (suc (suc k)) (drawn_json (noted n t (record { description = text; default = value }) (reference name))) ≡ (n && is_null (out-Json j) || is_ok (told table whole j d))
          by_cases true t text value = wrapped k agree true t _
          by_cases false (Some title) text value = wrapped k agree false (Some title) _
          by_cases false None (Some text) value = wrapped k agree false None (record { description = Some text; default = value })
          by_cases false None None (Some value) = wrapped k agree false None (record { description = None; default = Some value })
          by_cases false None None None = alone (suc k) more

      pub reference_agrees : (k : ℕ) → AgreesAt j k e.desc → AgreesAt j (suc k) e.desc → AgreesAt j (suc (suc k)) d
      reference_agrees k agree more extra t s =
          ap (λ (y : Drawn). admits_within doc q j (suc (suc k)) (drawn_json (noted (extra || y.nullable) t s y))) refers
          ∙ ap (λ (n : Bool). admits_within doc q j (suc (suc k)) (drawn_json (noted n t s (reference name)))) (or-false extra)
          ∙ by_notes k agree more extra t s
