-- A written schema admits exactly the values that denote a tree, with any steps that are enough.
use Rattle.std.proofs.Common.{◌≡◌, ℕ, zero, suc, ◌≤◌, Bool, true, false, List, [], ◌∷◌, Option, Some, None, option_map, is_ok, refl, sym, ◌∙◌, ap, subst, arith, MatchOption, inl, inr}
use Rattle.std.specs.Prelude.{Contains, ⊤}
use denote.Param.Weighed.{most}
use Rattle.schema_values.specs.declared.json_value.Json.{Json, out-Json}
use Rattle.openapi_values.specs.Smaller.{smaller_admits}
use Rattle.descriptors.specs.declared.desc.Desc.{Desc, out-Desc}
use Rattle.descriptors.specs.declared.desc.Desc.TheOpen.{Desc-F}
use Rattle.descriptors.specs.declared.table.Definition.{Definition}
use Rattle.typed_values.specs.Checks.{TablePasses, DescPasses}
use Rattle.descriptors.specs.Definitions.{definition, entry_of}
use Rattle.typed_values.specs.Denotes.{Told, told, nought, truth, character, number, words, at_definition}
use Rattle.typed_values.specs.Rows.{row}
use Rattle.typed_values.specs.Resting.{EachRests, RestsBy, Rests, AllRest}
use Rattle.typed_values.specs.SchemaTable.{drawn, other_members, schema_json}
use Rattle.typed_values.specs.Levels.{DescLevel}
use Rattle.schema_values.proofs.CallerLemmas.{contains_cases}
use Rattle.descriptors.proofs.CallerLemmas.{definition_is}
use Rattle.typed_values.proofs.CallerLemmas.{names_apart, fields_distinct, IsNeeded, needed_part, option_needed, list_needed, map_needed, field_needed, payload_needed, variant_needed, alternative_needed, reference_reached, reference_needed, row_at, each_of, is_right}
use Rattle.written_schemas.specs.Reached.{DefinesReached}
use Rattle.written_schemas.proofs.Scalars.{any_admits, never_admits, null_admits, truth_admits, character_admits, number_admits, words_admit}
use Rattle.written_schemas.proofs.Composites.{is_list_of, list_admits}
use Rattle.written_schemas.proofs.Maps.{map_admits}
use Rattle.written_schemas.proofs.Structs.{struct_admits}
use Rattle.written_schemas.proofs.Costs.{cost_after, cost_by, cost}
use Rattle.written_schemas.proofs.Forms.{choice_drawn, drawn_row}
use Rattle.written_schemas.proofs.Truths.{truth_is}
use Rattle.written_schemas.proofs.TaggedVariants.{behind_apart}
use Rattle.written_schemas.proofs.VariantChoices.{external_agrees, tagged_agrees}
use Rattle.written_schemas.proofs.AtOneValue.{AgreesAt, Below, leaf, list_agrees, map_agrees, object_agrees, enumeration_agrees, choice_agrees, option_agrees, reference_agrees}

at_most_of : (f : Desc → ℕ) (ds : List Desc) (x : Desc) → Contains ds x → f x ≤ most f ds
at_most_of f [] x c = absurd (omega (arith, c.1))
at_most_of f (y ∷ ds) x c = elim (contains_cases y ds x c) [ inl q ↦ omega (arith, ap f q) | inr k ↦ omega (arith, at_most_of f ds x k) ]

module _ (table : List Definition) (whole : Desc) (doc : Json) (q : ℕ) (passes : TablePasses table) (right : DescPasses table whole) (sound : AllRest table whole) (defines : DefinesReached doc table whole) (some : 1 ≤ q) where
  told_row : (j : Json) (d : Desc) → IsNeeded table whole d → (z : DescLevel) → out-Desc d ≡ z → told table whole j d ≡ row table whole j (out-Json j) z
  told_row j d need z e = row_at table whole j d (out-Json j) z (sound d (needed_part table whole d need)) refl e

  -- what says by a truth value what other members are denotes all, or nothing
  tells : (x : Desc) → IsNeeded table whole x → (b : Bool) → (drawn table x).truth ≡ Some b → (v : Json) → is_ok (told table whole v x) ≡ b
  tells x need b t v = elim (truth_is table x b t) [
    | inl any ↦ ap (λ (o : Told). is_ok o) (told_row v x need Desc-F.Any any.0) ∙ sym any.1
    | inr never ↦ ap (λ (o : Told). is_ok o) (told_row v x need Desc-F.Never never.0) ∙ sym never.1
  ]

  module _ (j : Json) (below : Below table whole doc q (out-Json j)) where
    -- as the definition of a name agrees, so does a reference to it
    reference_row : (n : ℕ) → ((d : Desc) → Rests table n d → IsNeeded table whole d → (m : ℕ) → cost table n d ≤ m → AgreesAt table whole doc q j m d)
        → (d : Desc) (name : List ℕ) → IsNeeded table whole d → out-Desc d ≡ Desc-F.Ref name → MatchOption (definition table name) ⊤ (Rests table n)
        → (m : ℕ) → cost_after (cost table n) (definition table name) ≤ m → (o : Option Definition) → entry_of table name ≡ o → AgreesAt table whole doc q j m d
    reference_row n ih d name need e rests m le None f =
        let none : definition table name ≡ None = definition_is table name ∙ ap (option_map (λ e. e.desc)) f in
        absurd ((is_right table whole d passes right (needed_part table whole d need)).defined (name, e, none))
    reference_row n ih d name need e rests m le (Some y) f =
        let found : definition table name ≡ Some y.desc = definition_is table name ∙ ap (option_map (λ e. e.desc)) f in
        let rest : Rests table n y.desc = subst (λ (o : Option Desc). MatchOption o ⊤ (Rests table n)) found rests in
        let need_y = reference_needed table whole d name y e f need in
        let steps : suc (suc (cost table n y.desc)) ≤ m = subst (λ (o : Option Desc). cost_after (cost table n) o ≤ m) found le in
        by_steps m steps (λ k less. ih y.desc rest need_y k less)
        (λ k one two. reference_agrees table whole doc q j d name y (drawn_row table d (Desc-F.Ref name) e) (defines name y (reference_reached table whole d name e need) f)
        (told_row j d need (Desc-F.Ref name) e ∙ ap (at_definition (told table whole j)) found) k one two)
      where
        by_steps : (m : ℕ) → suc (suc (cost table n y.desc)) ≤ m → ((k : ℕ) → cost table n y.desc ≤ k → AgreesAt table whole doc q j k y.desc)
            → ((k : ℕ) → AgreesAt table whole doc q j k y.desc → AgreesAt table whole doc q j (suc k) y.desc → AgreesAt table whole doc q j (suc (suc k)) d) → AgreesAt table whole doc q j m d
        by_steps zero steps each step = absurd (omega (arith, steps))
        by_steps (suc zero) steps each step = absurd (omega (arith, steps))
        by_steps (suc (suc k)) steps each step = step k (each k (omega (arith, steps))) (each (suc k) (omega (arith, steps)))

    choice_row : (n : ℕ) → ((d : Desc) → Rests table n d → IsNeeded table whole d → (m : ℕ) → cost table n d ≤ m → AgreesAt table whole doc q j m d)
        → (d : Desc) (ds : List Desc) → IsNeeded table whole d → out-Desc d ≡ Desc-F.Untagged ds → EachRests (Rests table n) ds → (m : ℕ) → suc (most (cost table n) ds) ≤ m → AgreesAt table whole doc q j m d
    choice_row n ih d ds need e rests zero le = absurd (omega (arith, le))
    choice_row n ih d ds need e rests (suc k) le =
        choice_agrees table whole doc q j d ds k (choice_drawn table d ds e) (told_row j d need (Desc-F.Untagged ds) e)
        (λ x c. ih x (each_of (Rests table n) ds x rests c) (alternative_needed table whole d ds x e c need) k (omega (arith, le, at_most_of (cost table n) ds x c)))

    agree_by : (n : ℕ) → ((d : Desc) → Rests table n d → IsNeeded table whole d → (m : ℕ) → cost table n d ≤ m → AgreesAt table whole doc q j m d)
        → (d : Desc) → IsNeeded table whole d → (z : DescLevel) → out-Desc d ≡ z → RestsBy table (Rests table n) z → (m : ℕ) → cost_by table (cost table n) z ≤ m → AgreesAt table whole doc q j m d
    agree_by n ih d need Desc-F.Any e rests m le =
        leaf table whole doc q j d (Some true) _ true (drawn_row table d Desc-F.Any e) (λ next extra t s. any_admits doc (smaller_admits doc q) next j extra t s (out-Json j))
        (ap (λ (o : Told). is_ok o) (sym (told_row j d need Desc-F.Any e))) m le
    agree_by n ih d need Desc-F.Never e rests m le =
        leaf table whole doc q j d (Some false) _ false (drawn_row table d Desc-F.Never e) (λ next extra t s. never_admits doc (smaller_admits doc q) next j extra t s (out-Json j))
        (ap (λ (o : Told). is_ok o) (sym (told_row j d need Desc-F.Never e))) m le
    agree_by n ih d need Desc-F.Null e rests m le =
        leaf table whole doc q j d None _ (is_ok (nought (out-Json j))) (drawn_row table d Desc-F.Null e) (λ next extra t s. null_admits doc (smaller_admits doc q) next j extra t s (out-Json j))
        (ap (λ (o : Told). is_ok o) (sym (told_row j d need Desc-F.Null e))) m le
    agree_by n ih d need Desc-F.Bool e rests m le =
        leaf table whole doc q j d None _ (is_ok (truth (out-Json j))) (drawn_row table d Desc-F.Bool e) (λ next extra t s. truth_admits doc (smaller_admits doc q) next j extra t s (out-Json j))
        (ap (λ (o : Told). is_ok o) (sym (told_row j d need Desc-F.Bool e))) m le
    agree_by n ih d need Desc-F.Char e rests m le =
        leaf table whole doc q j d None _ (is_ok (character (out-Json j))) (drawn_row table d Desc-F.Char e) (λ next extra t s. character_admits doc (smaller_admits doc q) next j extra t s (out-Json j))
        (ap (λ (o : Told). is_ok o) (sym (told_row j d need Desc-F.Char e))) m le
    agree_by n ih d need (Desc-F.Int kind min max) e rests m le =
        leaf table whole doc q j d None _ (is_ok (number kind min max (out-Json j))) (drawn_row table d (Desc-F.Int kind min max) e) (λ next extra t s. number_admits doc (smaller_admits doc q) next j extra t s (out-Json j) kind min max)
        (ap (λ (o : Told). is_ok o) (sym (told_row j d need (Desc-F.Int kind min max) e))) m le
    agree_by n ih d need (Desc-F.Text min max format) e rests m le =
        leaf table whole doc q j d None _ (is_ok (words min max (out-Json j))) (drawn_row table d (Desc-F.Text min max format) e) (λ next extra t s. words_admit doc (smaller_admits doc q) next j extra t s (out-Json j) format min max)
        (ap (λ (o : Told). is_ok o) (sym (told_row j d need (Desc-F.Text min max format) e))) m le
    agree_by n ih d need (Desc-F.Enumeration ns) e rests m le =
        enumeration_agrees table whole doc q j d ns (told_row j d need (Desc-F.Enumeration ns) e)
        (names_apart table d (Desc-F.Enumeration ns) e (is_right table whole d passes right (needed_part table whole d need))).0 (drawn_row table d (Desc-F.Enumeration ns) e) m le
    agree_by n ih d need (Desc-F.Option x) e rests m le =
        option_agrees table whole doc q j d x m (drawn_row table d (Desc-F.Option x) e) (told_row j d need (Desc-F.Option x) e) (ih x rests (option_needed table whole d x e need) m le)
    agree_by n ih d need (Desc-F.List x min max) e rests m le =
        leaf table whole doc q j d None _ (is_list_of (λ v. smaller_admits doc q v (schema_json table x)) min max (out-Json j)) (drawn_row table d (Desc-F.List x min max) e)
        (λ next extra t s. list_admits doc (smaller_admits doc q) next j extra t s (out-Json j) (schema_json table x) min max)
        (list_agrees table whole doc q j x min max (list_needed table whole d x min max e need) (out-Json j) below ∙ ap (λ (o : Told). is_ok o) (sym (told_row j d need (Desc-F.List x min max) e))) m le
    agree_by n ih d need (Desc-F.Map x) e rests m le =
        let need_x = map_needed table whole d x e need in
        leaf table whole doc q j d None _ _ (drawn_row table d (Desc-F.Map x) e)
        (λ next extra t s. map_admits doc (smaller_admits doc q) next j extra t s (other_members (drawn table x)) (out-Json j))
        (map_agrees table whole doc q j x need_x (tells x need_x) (out-Json j) below ∙ ap (λ (o : Told). is_ok o) (sym (told_row j d need (Desc-F.Map x) e))) m le
    agree_by n ih d need (Desc-F.Struct fs deny) e rests m le =
        leaf table whole doc q j d None _ _ (drawn_row table d (Desc-F.Struct fs deny) e)
        (λ next extra t s. struct_admits doc (smaller_admits doc q) next j extra t s (out-Json j) _ _ deny)
        (object_agrees table whole doc q j fs deny (fields_distinct table d fs deny e (is_right table whole d passes right (needed_part table whole d need))) (λ f c v h. h f.desc (field_needed table whole d fs deny f e c need)) (out-Json j) below
        ∙ ap (λ (o : Told). is_ok o) (sym (told_row j d need (Desc-F.Struct fs deny) e))) m le
    agree_by n ih d need (Desc-F.External vs) e rests m le =
        let right_d = is_right table whole d passes right (needed_part table whole d need) in
        external_agrees table whole doc q j below d vs (λ v x c f. payload_needed table whole d vs v x e c f need) (names_apart table d (Desc-F.External vs) e right_d).0
        (drawn_row table d (Desc-F.External vs) e) (told_row j d need (Desc-F.External vs) e) m le
    agree_by n ih d need (Desc-F.Tagged tag vs) e rests m le =
        let right_d = is_right table whole d passes right (needed_part table whole d need) in
        tagged_agrees table whole doc q j below some d tag vs (λ v f c k. variant_needed table whole d tag vs v f e c k need) (names_apart table d (Desc-F.Tagged tag vs) e right_d).0
        (λ v c. behind_apart table d tag vs e right_d v c) (drawn_row table d (Desc-F.Tagged tag vs) e) (told_row j d need (Desc-F.Tagged tag vs) e) m le
    agree_by n ih d need (Desc-F.Untagged ds) e rests m le = choice_row n ih d ds need e rests m le
    agree_by n ih d need (Desc-F.Ref name) e rests m le = reference_row n ih d name need e rests m le (entry_of table name) refl

    pub agree_at : (n : ℕ) (d : Desc) → Rests table n d → IsNeeded table whole d → (m : ℕ) → cost table n d ≤ m → AgreesAt table whole doc q j m d
    unfolding Rests cost
    agree_at zero d rests need m le = absurd rests
    agree_at (suc n) d rests need m le = agree_by n (agree_at n) d need (out-Desc d) refl rests m le
