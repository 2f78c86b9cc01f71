-- A written schema admits exactly the texts that denote a tree, with any steps that are enough.
use Rattle.std.proofs.Common.{◌≡◌, ℕ, zero, suc, ◌≤◌, Bool, true, false, ◌||◌, List, [], ◌∷◌, ◌++◌, map, Option, Some, None, option_map, is_ok, codes, cond, sym, ◌∙◌, ap, subst, arith, MatchOption}
use Rattle.std.proofs.Math.Bool.{or-false, or-true}
use Rattle.std.specs.List.{list_any}
use Rattle.std.specs.Prelude.{⊤}
use Rattle.schema_values.specs.declared.json_value.Json.{Json, List as Items, Object}
use Rattle.schema_values.specs.declared.json_value.Member.{Member}
use Rattle.schema_values.specs.Member.{member}
use Rattle.openapi_values.specs.Lookup.{definition as schema_of_name}
use Rattle.openapi_values.specs.Options.{is_some_and}
use Rattle.openapi_values.specs.TextAdmits.{text_step, text_within}
use Rattle.descriptors.specs.declared.desc.Desc.{Desc, out-Desc}
use Rattle.descriptors.specs.declared.desc.Desc.TheOpen.{Desc-F}
use Rattle.descriptors.specs.declared.desc.Named.{Named}
use Rattle.descriptors.specs.declared.table.Definition.{Definition}
use Rattle.descriptors.specs.Definitions.{definition, entry_of, listed_name}
use Rattle.descriptors.proofs.CallerLemmas.{definition_is}
use Rattle.typed_values.specs.Checks.{TablePasses, DescPasses}
use Rattle.typed_values.specs.Denotes.{Told, at_definition}
use Rattle.typed_values.specs.Levels.{DescLevel}
use Rattle.typed_values.specs.Resting.{RestsBy, Rests}
use Rattle.typed_values.specs.SchemaTable.{Drawn, Remarks, annotations, described, drawn, drawn_json, enumerated, choices_of, is_described, plain, reference, schema_json_described}
use Rattle.typed_values.proofs.CallerLemmas.{ok_just, names_apart, IsNeeded, needed_part, option_needed, reference_reached, reference_needed, is_right}
use Rattle.scalar_texts.specs.Texts.{text_told, name_of_text}
use Rattle.scalar_texts.proofs.CallerLemmas.{text_row}
use Rattle.written_schemas.specs.Reached.{DefinesReached}
use Rattle.written_schemas.proofs.CallerLemmas.{cost_after, cost_by, cost, enumerated_is, drawn_row, noted, before_members}
use Rattle.handler_shapes.specs.ScalarTypes.{IsScalarType, a_truth, a_character, a_number, a_text, a_name, an_option, a_reference}
use Rattle.written_texts.proofs.NameTexts.{plain_names, described_names}
use Rattle.written_texts.proofs.ScalarTexts.{truth_text, number_text, words_text, character_text}
use Rattle.written_texts.proofs.SchemaSteps.{one_more, reference_step, wrapped_step}

module _ (table : List Definition) (whole : Desc) (doc : Json) (passes : TablePasses table) (right : DescPasses table whole) (defines : DefinesReached doc table whole) (text : List ℕ) where
  -- under any annotations a schema admits the text where it denotes a tree
  abbrev pub AgreesAt : ℕ → Desc → Type 0
  AgreesAt m d = (extra : Bool) (t : Option (List ℕ)) (s : Remarks)
      → text_within doc text m (drawn_json (noted (extra || (drawn table d).nullable) t s (drawn table d))) ≡ is_ok (text_told table text d)

  -- annotations come before the members
  noted_plain : (d : Desc) (extra : Bool) (t : Option (List ℕ)) (s : Remarks) (truth : Option Bool) (ms : List Member) → drawn table d ≡ record (plain ms) { truth = truth }
      → drawn_json (noted (extra || (drawn table d).nullable) t s (drawn table d)) ≡ Object (annotations extra t s ++ ms)
  noted_plain d extra t s truth ms e =
      ap (λ (x : Drawn). drawn_json (noted (extra || x.nullable) t s x)) e
      ∙ ap (λ (n : Bool). drawn_json (noted n t s (plain ms))) (or-false extra)
      ∙ ap Object (before_members (annotations extra t s) ms)

  -- a schema of one step
  leaf : (d : Desc) (ms : List Member) (told : Told) → drawn table d ≡ plain ms
      → ((next : Json → Bool) (extra : Bool) (t : Option (List ℕ)) (s : Remarks) → text_step doc next text (Object (annotations extra t s ++ ms)) ≡ is_ok told)
      → text_told table text d ≡ told → (m : ℕ) → 1 ≤ m → AgreesAt m d
  leaf d ms told e rows same zero le = absurd (omega (arith, le))
  leaf d ms told e rows same (suc k) le = λ extra t s.
      ap (text_within doc text (suc k)) (noted_plain d extra t s None ms e)
      ∙ one_more doc text k _
      ∙ rows (text_within doc text k) extra t s
      ∙ ap (λ (o : Told). is_ok o) (sym same)

  enumeration_agrees : (d : Desc) (ns : List Named) → IsNeeded table whole d → out-Desc d ≡ Desc-F.Enumeration ns → (m : ℕ) → 2 ≤ m → AgreesAt m d
  enumeration_agrees d ns need e zero le = absurd (omega (arith, le))
  enumeration_agrees d ns need e (suc zero) le = absurd (omega (arith, le))
  enumeration_agrees d ns need e (suc (suc k)) le = by_test (list_any is_described ns) (drawn_row table d (Desc-F.Enumeration ns) e)
    where
      same : is_ok (text_told table text d) ≡ is_ok (name_of_text ns text)
      same = ap (λ (o : Told). is_ok o) (text_row table text passes.guarded d (Desc-F.Enumeration ns) e)

      by_test : (b : Bool) → drawn table d ≡ cond b (plain (member (codes "oneOf") (Items (choices_of ns)) ∷ [])) (enumerated (map listed_name ns)) → AgreesAt (suc (suc k)) d
      by_test true f = λ extra t s.
          ap (text_within doc text (suc (suc k))) (noted_plain d extra t s None _ f)
          ∙ described_names doc text extra t s ns (names_apart table d (Desc-F.Enumeration ns) e (is_right table whole d passes right (needed_part table whole d need))).0 k
          ∙ sym same
      by_test false f = λ extra t s.
          ap (text_within doc text (suc (suc k))) (noted_plain d extra t s None _ (f ∙ enumerated_is (map listed_name ns)))
          ∙ plain_names doc text extra t s ns (suc k)
          ∙ sym same

  option_agrees : (d x : Desc) (m : ℕ) → out-Desc d ≡ Desc-F.Option x → AgreesAt m x → AgreesAt m d
  option_agrees d x m e agree extra t s =
      ap (λ (y : Drawn). text_within doc text m (drawn_json (noted (extra || y.nullable) t s y))) (drawn_row table d (Desc-F.Option x) e)
      ∙ ap (λ (n : Bool). text_within doc text m (drawn_json (noted n t s (drawn table x)))) (or-true extra)
      ∙ agree true t s
      ∙ sym (ok_just (text_told table text x))
      ∙ ap (λ (o : Told). is_ok o) (sym (text_row table text passes.guarded d (Desc-F.Option x) e))

  module _ (d : Desc) (name : List ℕ) (e : Definition) (is : out-Desc d ≡ Desc-F.Ref name) (found : entry_of table name ≡ Some e) (defined : schema_of_name doc name ≡ Some (schema_json_described table e.description e.desc)) where
    same_told : text_told table text d ≡ text_told table text e.desc
    same_told =
        text_row table text passes.guarded d (Desc-F.Ref name) is
        ∙ ap (at_definition (text_told table text)) (definition_is table name ∙ ap (option_map (λ e. e.desc)) found)

    under_description : (k : ℕ) → AgreesAt k e.desc → (o : Option (List ℕ)) → text_within doc text k (drawn_json (described o (drawn table e.desc))) ≡ is_ok (text_told table text e.desc)
    under_description k agree None = agree false (drawn table e.desc).title (drawn table e.desc).remarks
    under_description k agree (Some o) = agree false (drawn table e.desc).title (record (drawn table e.desc).remarks { description = Some o })

    alone : (k : ℕ) → AgreesAt k e.desc → text_within doc text (suc k) (Object (reference name).members) ≡ is_ok (text_told table text d)
    alone k agree =
        one_more doc text k _
        ∙ reference_step doc (text_within doc text k) text name
        ∙ ap (λ (o : Option Json). is_some_and o (text_within doc text k)) defined
        ∙ under_description k agree e.description
        ∙ ap (λ (o : Told). is_ok o) (sym same_told)

    wrapped : (k : ℕ) → AgreesAt k e.desc → (n : Bool) (t : Option (List ℕ)) (s : Remarks)
        → text_within doc text (suc (suc k)) (Object (annotations n t s ++ member (codes "allOf") (Items (Object (reference name).members ∷ [])) ∷ [])) ≡ is_ok (text_told table text d)
    wrapped k agree n t s =
        one_more doc text (suc k) _
        ∙ wrapped_step doc (text_within doc text (suc k)) text n t s (Object (reference name).members)
        ∙ alone k agree

    by_notes : (k : ℕ) → AgreesAt k e.desc → AgreesAt (suc k) e.desc → (n : Bool) (t text_of : Option (List ℕ)) (value : Option Json)
        → text_within doc text (suc (suc k)) (drawn_json (noted n t (record { description = text_of; default = value }) (reference name))) ≡ is_ok (text_told table text d)
    by_notes k agree more true t text_of value = wrapped k agree true t (record { description = text_of; default = value })
    by_notes k agree more false (Some title) text_of value = wrapped k agree false (Some title) (record { description = text_of; default = value })
    by_notes k agree more false None (Some said) value = wrapped k agree false None (record { description = Some said; default = value })
    by_notes k agree more false None None (Some value) = wrapped k agree false None (record { description = None; default = Some value })
    by_notes k agree more false None None None = alone (suc k) more

    reference_agrees : (k : ℕ) → AgreesAt k e.desc → AgreesAt (suc k) e.desc → AgreesAt (suc (suc k)) d
    reference_agrees k agree more extra t s =
        ap (λ (y : Drawn). text_within doc text (suc (suc k)) (drawn_json (noted (extra || y.nullable) t s y))) (drawn_row table d (Desc-F.Ref name) is)
        ∙ ap (λ (n : Bool). text_within doc text (suc (suc k)) (drawn_json (noted n t s (reference name)))) (or-false extra)
        ∙ by_notes k agree more extra t s.description s.default

    by_steps : (n : ℕ) → ((k : ℕ) → cost table n e.desc ≤ k → AgreesAt k e.desc) → (m : ℕ) → suc (suc (cost table n e.desc)) ≤ m → AgreesAt m d
    by_steps n each zero le = absurd (omega (arith, le))
    by_steps n each (suc zero) le = absurd (omega (arith, le))
    by_steps n each (suc (suc k)) le = reference_agrees k (each k (omega (arith, le))) (each (suc k) (omega (arith, le)))

  enough : (n : ℕ) (d : Desc) (x : DescLevel) (m : ℕ) → out-Desc d ≡ x → cost table (suc n) d ≤ m → cost_by table (cost table n) x ≤ m
  unfolding cost
  enough n d x m e le = subst (λ (x : DescLevel). cost_by table (cost table n) x ≤ m) e le

  rests_as : (n : ℕ) (d : Desc) (x : DescLevel) → out-Desc d ≡ x → Rests table (suc n) d → RestsBy table (Rests table n) x
  unfolding Rests
  rests_as n d x e h = subst (RestsBy table (Rests table n)) e h

  none_rests : (d : Desc) → Rests table zero d → ⊥
  unfolding Rests
  none_rests d h = h

  pub agree_at : (n : ℕ) (d : Desc) → IsScalarType table d → Rests table n d → IsNeeded table whole d → (m : ℕ) → cost table n d ≤ m → AgreesAt m d
  agree_at zero d scalar rests need m le = absurd (none_rests d rests)
  agree_at (suc n) d (a_truth e) rests need m le =
      leaf d _ _ (drawn_row table d Desc-F.Bool e) (λ next extra t s. truth_text doc next text extra t s) (text_row table text passes.guarded d Desc-F.Bool e) m (enough n d Desc-F.Bool m e le)
  agree_at (suc n) d (a_character e) rests need m le =
      leaf d _ _ (drawn_row table d Desc-F.Char e) (λ next extra t s. character_text doc next text extra t s) (text_row table text passes.guarded d Desc-F.Char e) m (enough n d Desc-F.Char m e le)
  agree_at (suc n) d (a_number kind min max e) rests need m le =
      leaf d _ _ (drawn_row table d (Desc-F.Int kind min max) e) (λ next extra t s. number_text doc next text extra t s kind min max) (text_row table text passes.guarded d (Desc-F.Int kind min max) e) m (enough n d (Desc-F.Int kind min max) m e le)
  agree_at (suc n) d (a_text min max format e) rests need m le =
      leaf d _ _ (drawn_row table d (Desc-F.Text min max format) e) (λ next extra t s. words_text doc next text extra t s format min max) (text_row table text passes.guarded d (Desc-F.Text min max format) e) m (enough n d (Desc-F.Text min max format) m e le)
  agree_at (suc n) d (a_name ns e) rests need m le = enumeration_agrees d ns need e m (enough n d (Desc-F.Enumeration ns) m e le)
  agree_at (suc n) d (an_option x e scalar) rests need m le =
      option_agrees d x m e (agree_at n x scalar (rests_as n d (Desc-F.Option x) e rests) (option_needed table whole d x e need) m (enough n d (Desc-F.Option x) m e le))
  agree_at (suc n) d (a_reference name y e found scalar) rests need m le =
      let defined : definition table name ≡ Some y.desc = definition_is table name ∙ ap (option_map (λ e. e.desc)) found in
      let rest : Rests table n y.desc = subst (λ (o : Option Desc). MatchOption o ⊤ (Rests table n)) defined (rests_as n d (Desc-F.Ref name) e rests) in
      let steps : suc (suc (cost table n y.desc)) ≤ m = subst (λ (o : Option Desc). cost_after (cost table n) o ≤ m) defined (enough n d (Desc-F.Ref name) m e le) in
      let need_y = reference_needed table whole d name y e found need in
      by_steps d name y e found (defines name y (reference_reached table whole d name e need) found) n (λ k less. agree_at n y.desc scalar rest need_y k less) m steps
