-- The map that a struct is written as has exactly the texts of its fields.
use Rattle.std.proofs.Common.{◌≡◌, ℕ, Bool, List, [], ◌∷◌, Option, Some, None, option_map, refl, sym, ◌∙◌, ap, subst, inl, inr, map, arith}
use Rattle.std.specs.Prelude.{IfOk, zip}
use Rattle.std.specs.BTreeMap.{BTreeMap}
use Rattle.std.specs.declared.result.Result.{Result}
use Rattle.std.specs.declared.result.Result.TheVariants.{Ok, Err}
use Rattle.schema_values.specs.declared.variables.VariableValue.TheVariants.{String}
use Rattle.schema_values.specs.Order.{sorted_by}
use Rattle.schema_values.specs.Sound.{AreDistinct}
use Rattle.schema_values.proofs.CallerLemmas.{contains_first, contains_later, contains_cases}
use Rattle.descriptors.specs.declared.desc.Desc.{Desc, out-Desc}
use Rattle.descriptors.specs.declared.desc.Desc.TheOpen.{Desc-F}
use Rattle.descriptors.specs.declared.desc.Field.{Field}
use Rattle.descriptors.specs.declared.table.Definition.{Definition}
use Rattle.descriptors.specs.declared.tree.Tree.{Tree, out-Tree}
use Rattle.descriptors.specs.declared.tree.Tree.TheOpen.{Tree-F}
use Rattle.descriptors.specs.Definitions.{field_name}
use Rattle.descriptors.proofs.CallerLemmas.{same_or_not}
use Rattle.typed_values.specs.Checks.{TablePasses, DescPasses}
use Rattle.typed_values.specs.Fits.{field_desc}
use Rattle.typed_values.specs.Levels.{DescLevel, TreeOf}
use Rattle.typed_values.specs.Parts.{the_whole, of_whole}
use Rattle.typed_values.proofs.CallerLemmas.{fields_distinct, is_right}
use Rattle.flat_maps.specs.Flat.{resolved}
use Rattle.flat_maps.specs.declared.map_error.MapError.{MapError}
use Rattle.flat_maps.specs.FieldTexts.{tree_text, field_tree_text, FieldHas, HoldsTexts}
use Rattle.flat_maps.specs.MapErrors.{AnswersAs}
use Rattle.flat_maps.specs.Maps.{map_values}
use Rattle.flat_maps.specs.TextMaps.{TextEntry, entry_name, FieldText, WrittenTexts, text_alone, text_behind, optional_text, optional_behind, field_text, entries_with, before_rest, texts_written}
use Rattle.flat_maps.specs.TextMaps.{in_name_order, map_by, map_behind, map_written}
use Rattle.flat_maps.proofs.EntryLookups.{under, lacks, under_first, under_later, under_none, under_sorted}
use Rattle.flat_maps.proofs.FlatFits.{same_as}
use Rattle.flat_maps.proofs.TextLoops.{without, written_distinct}

text_there : (o : Option (List ℕ)) (text : List ℕ) → option_map String o ≡ Some (String text) → o ≡ Some text
text_there None text u = absurd (cc u)
text_there (Some w) text u = cc u

module _ (table : List Definition) where
  -- what is written of a field is the text of its tree
  alone_tells : (x : DescLevel) (y : TreeOf Tree) (o : Option (List ℕ)) → text_alone table x y ≡ Ok o → o ≡ tree_text y
  alone_tells (Desc-F.Text min max format) (Tree-F.Text text) o h = sym (cc h)
  alone_tells (Desc-F.Text min max format) _ o h = absurd (cc h)
  alone_tells _ y o h = absurd (cc h)

  behind_tells : (a : Option Desc) (t : Tree) (o : Option (List ℕ)) → text_behind table a t ≡ Ok o → o ≡ tree_text (out-Tree t)
  behind_tells None t o h = absurd (cc h)
  behind_tells (Some d) t o h = alone_tells (out-Desc d) (out-Tree t) o h

  optional_tells : (x : DescLevel) (y : TreeOf Tree) (o : Option (List ℕ)) → optional_text table x y ≡ Ok o → o ≡ field_tree_text y
  optional_tells (Desc-F.Option d) Tree-F.None o h = sym (cc h)
  optional_tells (Desc-F.Option d) (Tree-F.Some x) o h = behind_tells (resolved table d) x o h
  optional_tells (Desc-F.Option d) _ o h = absurd (cc h)
  optional_tells (Desc-F.Text min max format) (Tree-F.Text text) o h = sym (cc h)
  optional_tells (Desc-F.Text min max format) _ o h = absurd (cc h)
  optional_tells _ y o h = absurd (cc h)

  field_tells : (a : Option Desc) (t : Tree) (o : Option (List ℕ)) → optional_behind table a t ≡ Ok o → o ≡ field_tree_text (out-Tree t)
  field_tells None t o h = absurd (cc h)
  field_tells (Some d) t o h = optional_tells (out-Desc d) (out-Tree t) o h

  told : (f : Field) (t : Tree) (o : Option (List ℕ)) → field_text table f t ≡ Ok o → o ≡ field_tree_text (out-Tree t)
  told f t o h = field_tells (resolved table (field_desc f)) t o h

  module _ (name text : List ℕ) where
    later_has : (f : Field) (t : Tree) (fs : List Field) (ts : List Tree) → FieldHas fs ts name text → FieldHas (f ∷ fs) (t ∷ ts) name text
    later_has f t fs ts (g, s, inside, same, has) = (g, s, contains_later (f, t) (zip fs ts) (g, s) inside, same, has)

    -- a text that stands under a name is that of a field of this name
    field_has : (fs : List Field) (ts : List Tree) (es : List TextEntry) → texts_written table fs ts ≡ Ok es → under name es ≡ Some text → FieldHas fs ts name text
    field_has [] ts es e u = absurd (cc (subst (λ (ds : List TextEntry). under name ds ≡ Some text) {y = []} (sym (cc e)) u))
    field_has (f ∷ fs) [] es e u = absurd (cc (subst (λ (ds : List TextEntry). under name ds ≡ Some text) {y = []} (sym (cc e)) u))
    field_has (f ∷ fs) (t ∷ ts) es e u = by_text (field_has fs ts) (field_text table f t) refl (texts_written table fs ts) refl e
      where
        by_name : ((ds : List TextEntry) → texts_written table fs ts ≡ Ok ds → under name ds ≡ Some text → FieldHas fs ts name text) → (w : List ℕ) → field_text table f t ≡ Ok (Some w) → (ds : List TextEntry) → texts_written table fs ts ≡ Ok ds
            → under name ((f.name, w) ∷ ds) ≡ Some text → FieldHas (f ∷ fs) (t ∷ ts) name text
        by_name more w q ds r v = elim (same_or_not f.name name) [
          | inl same ↦
              let is : Some w ≡ Some text = sym (subst (λ (n : List ℕ). under n ((f.name, w) ∷ ds) ≡ Some w) same (under_first f.name w ds)) ∙ v in
              (f, t, contains_first (f, t) (zip fs ts), same, sym (told f t (Some w) q) ∙ is)
          | inr ne ↦ later_has f t fs ts (more ds r (sym (under_later name (f.name, w) ds (λ same. ne (sym same))) ∙ v))
        ]

        by_text : ((ds : List TextEntry) → texts_written table fs ts ≡ Ok ds → under name ds ≡ Some text → FieldHas fs ts name text) → (a : FieldText) → field_text table f t ≡ a → (rest : WrittenTexts) → texts_written table fs ts ≡ rest → before_rest f.name a rest ≡ Ok es
            → FieldHas (f ∷ fs) (t ∷ ts) name text
        by_text more (Ok None) q (Ok ds) r e = later_has f t fs ts (more ds r (subst (λ (xs : List TextEntry). under name xs ≡ Some text) {y = ds} (sym (cc e)) u))
        by_text more (Ok (Some w)) q (Ok ds) r e = by_name more w q ds r (subst (λ (xs : List TextEntry). under name xs ≡ Some text) {y = (f.name, w) ∷ ds} (sym (cc e)) u)
        by_text more (Ok o) q (Err refusal) r e = absurd (cc e)
        by_text more (Err refusal) q rest r e = absurd (cc e)

    -- the text of a field stands under its name
    stands : (fs : List Field) (ts : List Tree) (es : List TextEntry) → AreDistinct (map field_name fs) → texts_written table fs ts ≡ Ok es → FieldHas fs ts name text → under name es ≡ Some text
    stands [] ts es apart e h = absurd (omega (arith, h.2.1))
    stands (f ∷ fs) [] es apart e h = absurd (omega (arith, h.2.1))
    stands (f ∷ fs) (t ∷ ts) es apart e h = by_text (λ ds. stands fs ts ds apart.1) (field_text table f t) refl (texts_written table fs ts) refl e
      where
        first : (ds : List TextEntry) (o : Option (List ℕ)) → o ≡ Some text → f.name ≡ name → under name (entries_with f.name o ds) ≡ Some text
        first ds o is same =
            ap (λ (p : Option (List ℕ)). under name (entries_with f.name p ds)) is ∙ subst (λ (n : List ℕ). under n ((f.name, text) ∷ ds) ≡ Some text) same (under_first f.name text ds)

        behind : (ds : List TextEntry) (o : Option (List ℕ)) → texts_written table fs ts ≡ Ok ds → under name ds ≡ Some text → under name (entries_with f.name o ds) ≡ Some text
        behind ds None r v = v
        behind ds (Some w) r v =
            let nothing : under f.name ds ≡ None = under_none f.name ds (lacks f.name ds (without f.name table fs ts ds apart.0 r)) in
            under_later name (f.name, w) ds (λ same. absurd (cc (sym v ∙ ap (λ (n : List ℕ). under n ds) same ∙ nothing))) ∙ v

        by_field : ((ds : List TextEntry) → texts_written table fs ts ≡ Ok ds → FieldHas fs ts name text → under name ds ≡ Some text) → (o : Option (List ℕ)) → field_text table f t ≡ Ok o → (ds : List TextEntry) → texts_written table fs ts ≡ Ok ds
            → under name (entries_with f.name o ds) ≡ Some text
        by_field more o q ds r = elim (contains_cases (f, t) (zip fs ts) (h.0, h.1) h.2) [
          | inl same ↦
              first ds o
              (told f t o q ∙ ap (λ (p : Field × Tree). field_tree_text (out-Tree p.1)) same ∙ h.4)
              (ap (λ (p : Field × Tree). p.0.name) same ∙ h.3)
          | inr inside ↦ behind ds o r (more ds r (h.0, h.1, inside, h.3, h.4))
        ]

        by_text : ((ds : List TextEntry) → texts_written table fs ts ≡ Ok ds → FieldHas fs ts name text → under name ds ≡ Some text) → (a : FieldText) → field_text table f t ≡ a → (rest : WrittenTexts) → texts_written table fs ts ≡ rest → before_rest f.name a rest ≡ Ok es
            → under name es ≡ Some text
        by_text more (Ok o) q (Ok ds) r e = subst (λ (xs : List TextEntry). under name xs ≡ Some text) {x = entries_with f.name o ds} (cc e) (by_field more o q ds r)
        by_text more (Ok o) q (Err refusal) r e = absurd (cc e)
        by_text more (Err refusal) q rest r e = absurd (cc e)

  module _ (passes : TablePasses table) (whole : Desc) (right : DescPasses table whole) (t : Tree) (entries : List TextEntry) where
    fields_hold : (r : Desc) → resolved table whole ≡ Some r → (fs : List Field) (deny : Bool) → out-Desc r ≡ Desc-F.Struct fs deny → (ts : List Tree) → out-Tree t ≡ Tree-F.Fields ts → in_name_order (texts_written table fs ts) ≡ Ok entries
        → HoldsTexts table whole t (λ name. option_map String (under name entries))
    fields_hold r q fs deny e ts is h = by_texts (texts_written table fs ts) refl h
      where
        by_texts : (a : WrittenTexts) → texts_written table fs ts ≡ a → in_name_order a ≡ Ok entries → HoldsTexts table whole t (λ name. option_map String (under name entries))
        by_texts (Ok es) s h =
            let same = same_as table whole passes right whole r (of_whole the_whole) q in
            let apart = fields_distinct table r fs deny e (is_right table whole r passes right same.part) in
            let order : sorted_by entry_name es ≡ entries = cc h in
            let found : (name : List ℕ) → under name entries ≡ under name es =
            λ name. ap (under name) (sym order) ∙ under_sorted name es (written_distinct table fs ts es apart s) in
            record {
              resolves = r;
              fields = fs;
              deny = deny;
              trees = ts;
              leads = q;
              struct = e;
              parts = is;
              exactly = λ name text. (
                (λ u. field_has name text fs ts es s (sym (found name) ∙ text_there (under name entries) text u)),
                (λ has. ap (option_map String) (found name ∙ stands name text fs ts es apart s has)),
              );
            }
        by_texts (Err refusal) s h = absurd (cc h)

    struct_holds : (r : Desc) → resolved table whole ≡ Some r → (x : DescLevel) → out-Desc r ≡ x → (y : TreeOf Tree) → out-Tree t ≡ y → map_by table x y ≡ Ok entries → HoldsTexts table whole t (λ name. option_map String (under name entries))
    struct_holds r q (Desc-F.Struct fs deny) e (Tree-F.Fields ts) is h = fields_hold r q fs deny e ts is h
    struct_holds r q (Desc-F.Struct fs deny) e _ is h = absurd (cc h)
    struct_holds r q _ e y is h = absurd (cc h)

    whole_holds : (a : Option Desc) → resolved table whole ≡ a → map_behind table a t ≡ Ok entries → HoldsTexts table whole t (λ name. option_map String (under name entries))
    whole_holds None q h = absurd (cc h)
    whole_holds (Some r) q h = struct_holds r q (out-Desc r) refl (out-Tree t) refl h

pub holds_texts : (table : List Definition) (d : Desc) (t : Tree) → TablePasses table → DescPasses table d → (result : Result (BTreeMap (List ℕ) (List ℕ)) MapError) → AnswersAs (λ m. m.entries) result (map_written table d t)
    → IfOk result (λ m. HoldsTexts table d t (map_values String m))
holds_texts table d t passes right (Ok m) told = whole_holds table passes d right t m.entries (resolved table d) refl told
holds_texts table d t passes right (Err error) told = tt
