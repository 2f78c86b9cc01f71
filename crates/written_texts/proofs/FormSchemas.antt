-- The schema of a descriptor that leads to a struct leads to that struct's members, and admits exactly the forms whose pairs denote a tree.
use Rattle.std.proofs.Common.{◌≡◌, ◌↔◌, ℕ, zero, suc, ◌≤◌, false, List, [], ◌∷◌, ◌++◌, Option, Some, None, option_map, option_and_then, is_ok, codes, refl, sym, ◌∙◌, ap, subst, arith}
use Rattle.schema_values.specs.declared.json_value.Json.{Json, Text as Words, List as Items, Object}
use Rattle.schema_values.specs.declared.json_value.Member.{Member}
use Rattle.schema_values.specs.Get.{first_named}
use Rattle.schema_values.specs.Member.{name_of, member}
use Rattle.schema_values.specs.Order.{sorted_by, same_name}
use Rattle.request_words.specs.declared.pairs.NamedText.{NamedText}
use Rattle.openapi_values.specs.FormAdmits.{resolved_within, object_holds, form_admitted, FormAdmits}
use Rattle.openapi_values.specs.Lookup.{definition as schema_of_name}
use Rattle.openapi_values.specs.Options.{is_some_and}
use Rattle.openapi_values.specs.Room.{room}
use Rattle.descriptors.specs.declared.desc.Desc.{Desc, out-Desc}
use Rattle.descriptors.specs.declared.desc.Desc.TheOpen.{Desc-F}
use Rattle.descriptors.specs.declared.desc.Field.{Field}
use Rattle.descriptors.specs.declared.table.Definition.{Definition}
use Rattle.descriptors.specs.declared.tree.Tree.{Tree}
use Rattle.descriptors.specs.Definitions.{definition, entry_of}
use Rattle.descriptors.proofs.CallerLemmas.{definition_is}
use Rattle.typed_values.specs.Denotes.{room as table_room}
use Rattle.typed_values.specs.Levels.{DescLevel}
use Rattle.typed_values.specs.Parts.{the_whole}
use Rattle.typed_values.specs.SchemaTable.{Drawn, Remarks, annotations, default_of, described, drawn, drawn_json, of_type, if_members, if_names, reference, schema_json, schema_json_titled, schema_json_described}
use Rattle.typed_values.proofs.CallerLemmas.{IsNeeded, of_whole, reference_reached, reference_needed}
use Rattle.flat_maps.specs.declared.repeats.Repeats.TheVariants.{Refuse}
use Rattle.flat_maps.specs.Flat.{resolved_by, resolved_at, resolved, under_struct}
use Rattle.flat_maps.specs.Pairs.{pairs_fields, pairs_told, PairsDenote}
use Rattle.written_schemas.specs.Reached.{DefinesReached}
use Rattle.written_schemas.specs.Written.{IsWritten}
use Rattle.written_schemas.proofs.CallerLemmas.{cost_after, cost_by, cost, drawn_row, properties_drawn, names_required, fields_drawn, noted, before_members, cost_bounded, bare_fits}
use Rattle.written_texts.specs.FlatStructs.{IsFlatStruct}
use Rattle.written_texts.proofs.FlatFields.{struct_of, fields_defined, field_written}
use Rattle.written_texts.proofs.FormObjects.{object_told}
use Rattle.written_texts.proofs.FormSteps.{reference_leads, wrapped_leads, schema_there}
use Rattle.written_texts.proofs.Whole.{remarked_texts, holds_where}

no_all_of : (properties : List Member) (names : List (List ℕ)) → first_named (codes "allOf") (of_type (codes "object") (if_members properties (codes "properties") (if_names names (codes "required") []))) ≡ None
no_all_of [] [] = refl
no_all_of [] (name ∷ names) = refl
no_all_of (p ∷ properties) [] = refl
no_all_of (p ∷ properties) (name ∷ names) = refl

module _ (table : List Definition) (whole : Desc) (doc : Json) (written : IsWritten doc table whole) (fs : List Field) where
  -- the members of the struct's schema are led to, behind some annotations
  record LeadsToFields (o : Option (List Member)) : Type 0 where
    title : Option (List ℕ)
    remarks : Remarks
    leads : o ≡ Some (annotations false title remarks ++ (fields_drawn table fs false).members)

  -- so does a schema, with so many steps left, under any title and remarks
  abbrev LeadsAt : ℕ → Desc → Type 0
  LeadsAt m d = (t : Option (List ℕ)) (s : Remarks) → LeadsToFields (resolved_within doc m (drawn_json (noted (drawn table d).nullable t s (drawn table d))))

  struct_leads : (d : Desc) → out-Desc d ≡ Desc-F.Struct fs false → (m : ℕ) → 1 ≤ m → LeadsAt m d
  struct_leads d e zero le = absurd (omega (arith, le))
  struct_leads d e (suc k) le = λ t s.
      let properties = sorted_by name_of (properties_drawn table fs) in
      let names = sorted_by same_name (names_required table fs) in
      record {
        title = t;
        remarks = s;
        leads =
            ap (λ (x : Drawn). resolved_within doc (suc k) (drawn_json (noted x.nullable t s x))) (drawn_row table d (Desc-F.Struct fs false) e)
            ∙ ap (λ (ms : List Member). resolved_within doc (suc k) (Object ms)) (before_members (annotations false t s) (fields_drawn table fs false).members)
            ∙ schema_there doc k false t s (member (codes "type") (Words (codes "object"))) (if_members properties (codes "properties") (if_names names (codes "required") [])) refl (no_all_of properties names);
      }

  module _ (d : Desc) (name : List ℕ) (y : Definition) (is : out-Desc d ≡ Desc-F.Ref name) (defined : schema_of_name doc name ≡ Some (schema_json_described table y.description y.desc)) where
    under_description : (k : ℕ) → LeadsAt k y.desc → (o : Option (List ℕ)) → LeadsToFields (resolved_within doc k (drawn_json (described o (drawn table y.desc))))
    under_description k leads None = leads (drawn table y.desc).title (drawn table y.desc).remarks
    under_description k leads (Some o) = leads (drawn table y.desc).title (record (drawn table y.desc).remarks { description = Some o })

    alone : (k : ℕ) → LeadsAt k y.desc → LeadsToFields (resolved_within doc (suc k) (Object (reference name).members))
    alone k leads = subst LeadsToFields (sym (reference_leads doc k name ∙ ap (option_and_then (resolved_within doc k)) defined)) (under_description k leads y.description)

    wrapped : (k : ℕ) → LeadsAt k y.desc → (t : Option (List ℕ)) (s : Remarks)
        → LeadsToFields (resolved_within doc (suc (suc k)) (Object (annotations false t s ++ member (codes "allOf") (Items (Object (reference name).members ∷ [])) ∷ [])))
    wrapped k leads t s = subst LeadsToFields (sym (wrapped_leads doc (suc k) false t s (Object (reference name).members))) (alone k leads)

    by_notes : (k : ℕ) → LeadsAt k y.desc → LeadsAt (suc k) y.desc → (t said : Option (List ℕ)) (value : Option Json)
        → LeadsToFields (resolved_within doc (suc (suc k)) (drawn_json (noted false t (record { description = said; default = value }) (reference name))))
    by_notes k leads more (Some title) said value = wrapped k leads (Some title) (record { description = said; default = value })
    by_notes k leads more None (Some said) value = wrapped k leads None (record { description = Some said; default = value })
    by_notes k leads more None None (Some value) = wrapped k leads None (record { description = None; default = Some value })
    by_notes k leads more None None None = alone (suc k) more

    by_steps : (n : ℕ) → ((k : ℕ) → n ≤ k → LeadsAt k y.desc) → (m : ℕ) → suc (suc n) ≤ m → LeadsAt m d
    by_steps n each zero le = absurd (omega (arith, le))
    by_steps n each (suc zero) le = absurd (omega (arith, le))
    by_steps n each (suc (suc k)) le = λ t s.
        subst LeadsToFields (sym (ap (λ (x : Drawn). resolved_within doc (suc (suc k)) (drawn_json (noted x.nullable t s x))) (drawn_row table d (Desc-F.Ref name) is)))
        (by_notes k (each k (omega (arith, le))) (each (suc k) (omega (arith, le))) t s.description s.default)

  module _ (r : Desc) (level : out-Desc r ≡ Desc-F.Struct fs false) where
    enough : (n : ℕ) (d : Desc) (z : DescLevel) (m : ℕ) → out-Desc d ≡ z → cost table (suc n) d ≤ m → cost_by table (cost table n) z ≤ m
    unfolding cost
    enough n d z m e le = subst (λ (z : DescLevel). cost_by table (cost table n) z ≤ m) e le

    -- what follows a reference leads to the struct, as far as so many steps are enough
    abbrev LeadsOn : ℕ → Type 0
    LeadsOn n = (y : Desc) → resolved_at table n y ≡ Some r → IsNeeded table whole y → (m : ℕ) → cost table n y ≤ m → LeadsAt m y

    behind_name : (n : ℕ) (d : Desc) (name : List ℕ) → LeadsOn n → out-Desc d ≡ Desc-F.Ref name → IsNeeded table whole d → (m : ℕ) → cost table (suc n) d ≤ m
        → (o : Option Definition) → entry_of table name ≡ o → option_and_then (resolved_at table n) (option_map (λ e. e.desc) o) ≡ Some r → LeadsAt m d
    behind_name n d name later is need m le None found led = absurd (cc led)
    behind_name n d name later is need m le (Some y) found led =
        let defined : definition table name ≡ Some y.desc = definition_is table name ∙ ap (option_map (λ e. e.desc)) found in
        let steps : suc (suc (cost table n y.desc)) ≤ m = subst (λ (o : Option Desc). cost_after (cost table n) o ≤ m) defined (enough n d (Desc-F.Ref name) m is le) in
        by_steps d name y is (written.defined name y (reference_reached table whole d name is need) found) (cost table n y.desc)
        (λ k less. later y.desc led (reference_needed table whole d name y is found need) k less) m steps

    leads_by : (n : ℕ) (d : Desc) → LeadsOn n → IsNeeded table whole d → (m : ℕ) → cost table (suc n) d ≤ m
        → (z : DescLevel) → out-Desc d ≡ z → resolved_by table (resolved_at table n) d z ≡ Some r → LeadsAt m d
    leads_by n d later need m le (Desc-F.Ref name) is led =
        behind_name n d name later is need m le (entry_of table name) refl (ap (option_and_then (resolved_at table n)) (sym (definition_is table name)) ∙ led)
    leads_by n d later need m le _ is led =
        let same : d ≡ r = cc led in
        let struct : out-Desc d ≡ Desc-F.Struct fs false = ap out-Desc same ∙ level in
        struct_leads d struct m (enough n d (Desc-F.Struct fs false) m struct le)

    leads_at : (n : ℕ) → LeadsOn n
    unfolding resolved_at
    leads_at zero d led need m le = absurd (cc led)
    leads_at (suc n) d led need m le = leads_by n d (leads_at n) need m le (out-Desc d) refl led

module _ (doc : Json) (table : List Definition) (desc : Desc) (fs : List Field) (flat : IsFlatStruct table desc fs) (defines : DefinesReached doc table desc) (pairs : List NamedText) where
  written : IsWritten doc table desc
  written = record { table_passes = flat.table_passes; desc_passes = flat.desc_passes; defined = defines }

  -- under any title and remarks
  noted_forms : (t : Option (List ℕ)) (s : Remarks) → form_admitted doc (drawn_json (noted (drawn table desc).nullable t s (drawn table desc))) pairs ≡ is_ok (pairs_told table Refuse pairs desc)
  unfolding resolved
  noted_forms t s =
      let schema = drawn_json (noted (drawn table desc).nullable t s (drawn table desc)) in
      let struct = struct_of fs (resolved table desc) flat.has_fields in
      let led = leads_at table desc doc written fs struct.struct struct.level (table_room table desc) desc struct.there (of_whole the_whole) (room doc schema)
      (omega (arith, bare_fits table desc (drawn table desc).nullable t s, cost_bounded table desc doc flat.table_passes defines (table_room table desc) desc (of_whole the_whole))) t s in
      ap (λ (o : Option (List Member)). is_some_and o (object_holds doc pairs)) led.leads
      ∙ object_told table doc pairs false led.title led.remarks fs
      (λ f c text. remarked_texts doc table f.desc (field_written table desc fs flat doc (fields_defined table desc fs flat doc defines) f c) (flat.scalar f c) text (default_of table f.presence f.desc) f.description)
      ∙ ap (λ o. is_ok (under_struct (pairs_fields table Refuse pairs) o)) (sym flat.has_fields)

  form_where : (schema : Json) → form_admitted doc schema pairs ≡ is_ok (pairs_told table Refuse pairs desc) → FormAdmits doc schema pairs ↔ ((tree : Tree) × PairsDenote table desc Refuse pairs tree)
  form_where schema same = holds_where (form_admitted doc schema pairs) (pairs_told table Refuse pairs desc) same

  plain_forms : form_admitted doc (schema_json table desc) pairs ≡ is_ok (pairs_told table Refuse pairs desc)
  plain_forms = noted_forms (drawn table desc).title (drawn table desc).remarks

  -- under a title, which a reference does not show
  titled_forms : (name : List ℕ) → form_admitted doc (schema_json_titled table name desc) pairs ≡ is_ok (pairs_told table Refuse pairs desc)
  titled_forms name = by_form (out-Desc desc) refl
    where
      by_form : (z : DescLevel) → out-Desc desc ≡ z → form_admitted doc (schema_json_titled table name desc) pairs ≡ is_ok (pairs_told table Refuse pairs desc)
      by_form (Desc-F.Ref other) e = rw e plain_forms
      by_form _ e = rw e (noted_forms (Some name) (drawn table desc).remarks)

  described_forms : (said : Option (List ℕ)) → form_admitted doc (schema_json_described table said desc) pairs ≡ is_ok (pairs_told table Refuse pairs desc)
  described_forms None = plain_forms
  described_forms (Some said) = noted_forms (drawn table desc).title (record (drawn table desc).remarks { description = Some said })

  pub plain_are : FormAdmits doc (schema_json table desc) pairs ↔ ((tree : Tree) × PairsDenote table desc Refuse pairs tree)
  plain_are = form_where (schema_json table desc) plain_forms

  pub titled_are : (name : List ℕ) → FormAdmits doc (schema_json_titled table name desc) pairs ↔ ((tree : Tree) × PairsDenote table desc Refuse pairs tree)
  titled_are name = form_where (schema_json_titled table name desc) (titled_forms name)

  pub described_are : (said : Option (List ℕ)) → FormAdmits doc (schema_json_described table said desc) pairs ↔ ((tree : Tree) × PairsDenote table desc Refuse pairs tree)
  described_are said = form_where (schema_json_described table said desc) (described_forms said)
