-- The agreement on texts in a whole document, whose room is enough.
use Rattle.std.proofs.Common.{◌≡◌, ◌↔◌, ℕ, ◌+◌, ◌≤◌, Bool, false, ◌||◌, List, Option, Some, None, is_ok, refl, sym, ◌∙◌, ap, subst, arith, IsTrue}
use Rattle.std.specs.declared.result.Result.TheVariants.{Ok, Err}
use Rattle.schema_values.specs.declared.json_value.Json.{Json}
use Rattle.openapi_values.specs.Room.{values, room}
use Rattle.openapi_values.specs.TextAdmits.{TextAdmits, text_within, text_admitted}
use Rattle.descriptors.specs.declared.desc.Desc.{Desc, out-Desc}
use Rattle.descriptors.specs.declared.desc.Desc.TheOpen.{Desc-F}
use Rattle.descriptors.specs.declared.table.Definition.{Definition}
use Rattle.descriptors.specs.declared.tree.Tree.{Tree}
use Rattle.typed_values.specs.Denotes.{Told, room as table_room}
use Rattle.typed_values.specs.Levels.{DescLevel}
use Rattle.typed_values.specs.Parts.{the_whole, of_whole as part_of_whole}
use Rattle.typed_values.specs.Schemas.{in_header, in_query}
use Rattle.typed_values.specs.SchemaTable.{Remarks, drawn, drawn_json, defaulted, described, schema_json, schema_json_titled, schema_json_described}
use Rattle.typed_values.proofs.CallerLemmas.{ok_just, of_whole, option_needed, guarded_rests}
use Rattle.scalar_texts.specs.Texts.{text_told}
use Rattle.scalar_texts.proofs.CallerLemmas.{text_row}
use Rattle.written_schemas.specs.Written.{IsWritten}
use Rattle.written_schemas.proofs.CallerLemmas.{noted, cost_bounded, bare, bare_fits}
use Rattle.written_texts.specs.Agrees.{AdmitsTexts}
use Rattle.handler_shapes.specs.ScalarTypes.{IsScalarType, a_truth, a_character, a_number, a_text, a_name, an_option, a_reference}
use Rattle.written_texts.proofs.Agreement.{agree_at}
use Rattle.written_texts.proofs.WrittenParts.{written_part}

-- something is told exactly where some tree is
pub true_where : (o : Told) → IsTrue (is_ok o) ↔ ((tree : Tree) × (o ≡ Ok tree))
true_where (Ok tree) = (λ h. (tree, refl), λ h. refl)
true_where (Err trouble) = (λ h. absurd (cc h), λ h. absurd (cc h.1))

-- so a test that says whether something is told holds exactly where some tree is
pub holds_where : (b : Bool) (o : Told) → b ≡ is_ok o → IsTrue b ↔ ((tree : Tree) × (o ≡ Ok tree))
holds_where b o same = let ok = true_where o in (λ h. ok.0 (subst IsTrue same h), λ h. subst IsTrue (sym same) (ok.1 h))

module _ (doc : Json) (table : List Definition) (desc : Desc) (written : IsWritten doc table desc) (scalar : IsScalarType table desc) where
  -- any steps that are no fewer than the values of the document and the bare schema
  agree_with : (text : List ℕ) (q : ℕ) → values doc + bare table desc ≤ q → (extra : Bool) (t : Option (List ℕ)) (s : Remarks)
      → text_within doc text q (drawn_json (noted (extra || (drawn table desc).nullable) t s (drawn table desc))) ≡ is_ok (text_told table text desc)
  agree_with text q enough extra t s =
      agree_at table desc doc written.table_passes written.desc_passes written.defined text (table_room table desc) desc scalar
      (guarded_rests table desc written.table_passes.guarded desc (part_of_whole the_whole)) (of_whole the_whole) q
      (omega (arith, cost_bounded table desc doc written.table_passes written.defined (table_room table desc) desc (of_whole the_whole), enough)) extra t s

  noted_texts : (text : List ℕ) (t : Option (List ℕ)) (s : Remarks) → text_admitted doc (drawn_json (noted (drawn table desc).nullable t s (drawn table desc))) text ≡ is_ok (text_told table text desc)
  noted_texts text t s =
      let schema = drawn_json (noted (drawn table desc).nullable t s (drawn table desc)) in
      agree_with text (room doc schema) (omega (arith, bare_fits table desc (drawn table desc).nullable t s)) false t s

  -- whatever its description and its default
  pub remarked_texts : (text : List ℕ) (default : Option Json) (said : Option (List ℕ)) → text_admitted doc (drawn_json (defaulted default (described said (drawn table desc)))) text ≡ is_ok (text_told table text desc)
  remarked_texts text None None = noted_texts text (drawn table desc).title (drawn table desc).remarks
  remarked_texts text None (Some said) = noted_texts text (drawn table desc).title (record (drawn table desc).remarks { description = Some said })
  remarked_texts text (Some value) None = noted_texts text (drawn table desc).title (record (drawn table desc).remarks { default = Some value })
  remarked_texts text (Some value) (Some said) = noted_texts text (drawn table desc).title (record { description = Some said; default = Some value })

  pub plain_texts : (text : List ℕ) → text_admitted doc (schema_json table desc) text ≡ is_ok (text_told table text desc)
  plain_texts text = remarked_texts text None None

  -- under a title, which a reference does not show
  titled_texts : (name text : List ℕ) → text_admitted doc (schema_json_titled table name desc) text ≡ is_ok (text_told table text desc)
  titled_texts name text = by_form scalar
    where
      named : text_admitted doc (drawn_json (noted (drawn table desc).nullable (Some name) (drawn table desc).remarks (drawn table desc))) text ≡ is_ok (text_told table text desc)
      named = noted_texts text (Some name) (drawn table desc).remarks

      by_form : IsScalarType table desc → text_admitted doc (schema_json_titled table name desc) text ≡ is_ok (text_told table text desc)
      by_form (a_truth f) = rw f named
      by_form (a_character f) = rw f named
      by_form (a_number kind min max f) = rw f named
      by_form (a_text min max format f) = rw f named
      by_form (a_name names f) = rw f named
      by_form (an_option x f h) = rw f named
      by_form (a_reference other y f found h) = rw f (plain_texts text)

  pub plain_agree : AdmitsTexts doc (schema_json table desc) table desc
  plain_agree text = holds_where (text_admitted doc (schema_json table desc) text) (text_told table text desc) (plain_texts text)

  pub titled_agree : (name : List ℕ) → AdmitsTexts doc (schema_json_titled table name desc) table desc
  titled_agree name text = holds_where (text_admitted doc (schema_json_titled table name desc) text) (text_told table text desc) (titled_texts name text)

  pub described_agree : (said : Option (List ℕ)) → AdmitsTexts doc (schema_json_described table said desc) table desc
  described_agree said text = holds_where (text_admitted doc (schema_json_described table said desc) text) (text_told table text desc) (remarked_texts text None said)

-- ---- an option that is written as what it is over

module _ (doc : Json) (table : List Definition) where
  over : (d x : Desc) → out-Desc d ≡ Desc-F.Option x → IsScalarType table d → IsScalarType table x
  over d x e (a_truth f) = absurd (cc (sym e ∙ f))
  over d x e (a_character f) = absurd (cc (sym e ∙ f))
  over d x e (a_number kind min max f) = absurd (cc (sym e ∙ f))
  over d x e (a_text min max format f) = absurd (cc (sym e ∙ f))
  over d x e (a_name names f) = absurd (cc (sym e ∙ f))
  over d x e (an_option y f scalar) = let same : y ≡ x = cc (sym f ∙ e) in subst (IsScalarType table) same scalar
  over d x e (a_reference name y f found scalar) = absurd (cc (sym e ∙ f))

  option_texts : (d x : Desc) → out-Desc d ≡ Desc-F.Option x → IsWritten doc table d → IsScalarType table d → (text : List ℕ) → text_admitted doc (schema_json table x) text ≡ is_ok (text_told table text d)
  option_texts d x e written scalar text =
      plain_texts doc table x (written_part table d x doc written (option_needed table d d x e (of_whole the_whole))) (over d x e scalar) text
      ∙ sym (ok_just (text_told table text x))
      ∙ ap (λ (o : Told). is_ok o) (sym (text_row table text written.table_passes.guarded d (Desc-F.Option x) e))

  module _ (d : Desc) (written : IsWritten doc table d) (scalar : IsScalarType table d) (text : List ℕ) where
    pub header_texts : text_admitted doc (schema_json table (in_header d)) text ≡ is_ok (text_told table text d)
    header_texts = by_form (out-Desc d) refl
      where
        by_form : (z : DescLevel) → out-Desc d ≡ z → text_admitted doc (schema_json table (in_header d)) text ≡ is_ok (text_told table text d)
        by_form (Desc-F.Option x) e = rw e (option_texts d x e written scalar text)
        by_form _ e = rw e (plain_texts doc table d written scalar text)

    pub query_texts : text_admitted doc (schema_json table (in_query d)) text ≡ is_ok (text_told table text d)
    query_texts = by_form (out-Desc d) refl
      where
        by_inner : (x : Desc) (z : DescLevel) → out-Desc x ≡ z → out-Desc d ≡ Desc-F.Option x → text_admitted doc (schema_json table (in_query d)) text ≡ is_ok (text_told table text d)
        by_inner x (Desc-F.Ref name) f e = rw (e, f) (option_texts d x e written scalar text)
        by_inner x _ f e = rw (e, f) (plain_texts doc table d written scalar text)

        by_form : (z : DescLevel) → out-Desc d ≡ z → text_admitted doc (schema_json table (in_query d)) text ≡ is_ok (text_told table text d)
        by_form (Desc-F.Option x) e = by_inner x (out-Desc x) refl e
        by_form _ e = rw e (plain_texts doc table d written scalar text)

    pub header_agree : TextAdmits doc (schema_json table (in_header d)) text ↔ ((tree : Tree) × (text_told table text d ≡ Ok tree))
    header_agree = holds_where (text_admitted doc (schema_json table (in_header d)) text) (text_told table text d) header_texts

    pub query_agree : TextAdmits doc (schema_json table (in_query d)) text ↔ ((tree : Tree) × (text_told table text d ≡ Ok tree))
    query_agree = holds_where (text_admitted doc (schema_json table (in_query d)) text) (text_told table text d) query_texts
