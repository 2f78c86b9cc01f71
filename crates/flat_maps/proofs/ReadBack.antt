-- The map of texts that a struct is written as denotes it again.
use Rattle.std.proofs.Common.{◌≡◌, ◌≢◌, ℕ, ◌+◌, Bool, true, false, ◌&&◌, List, [], ◌∷◌, Option, Some, None, option_map, length, refl, sym, ◌∙◌, ap, subst, map}
use Rattle.std.specs.Prelude.{Contains, IfOk}
use Rattle.std.specs.BTreeMap.{BTreeMap}
use Rattle.std.specs.List.{AllByRecursion}
use Rattle.std.specs.declared.result.Result.{Result}
use Rattle.std.specs.declared.result.Result.TheVariants.{Ok, Err}
use Rattle.schema_values.specs.declared.variables.VariableValue.{VariableValue}
use Rattle.schema_values.specs.declared.variables.VariableValue.TheVariants.{String}
use Rattle.schema_values.specs.Order.{sorted_by}
use Rattle.schema_values.specs.Sound.{AreDistinct}
use Rattle.schema_values.proofs.CallerLemmas.{contains_first, contains_later}
use Rattle.descriptors.specs.declared.desc.Desc.{Desc, out-Desc}
use Rattle.descriptors.specs.declared.desc.Desc.TheOpen.{Desc-F}
use Rattle.descriptors.specs.declared.desc.Desc.TheVariants as desc
use Rattle.descriptors.specs.declared.desc.Desc.TheViews.{roll-Desc, roll-out-Desc}
use Rattle.descriptors.specs.declared.desc.Field.{Field}
use Rattle.descriptors.specs.declared.desc.Presence.{Presence}
use Rattle.descriptors.specs.declared.desc.Presence.TheVariants.{Required, Nullable, Skipped, Default}
use Rattle.descriptors.specs.declared.table.Definition.{Definition}
use Rattle.descriptors.specs.declared.tree.Tree.{Tree, None as Nothing, Some as Just, Text as Words, Fields as Parts, out-Tree}
use Rattle.descriptors.specs.declared.tree.Tree.TheOpen.{Tree-F}
use Rattle.descriptors.specs.declared.tree.Tree.TheVariants as tree
use Rattle.descriptors.specs.declared.tree.Tree.TheViews.{roll-Tree, roll-out-Tree}
use Rattle.descriptors.specs.Definitions.{field_name}
use Rattle.typed_values.specs.declared.fault.FaultKind.TheVariants.{BadLength}
use Rattle.typed_values.specs.declared.fault.Place.TheVariants.{Name}
use Rattle.typed_values.specs.Bounds.{is_length_within}
use Rattle.typed_values.specs.Checks.{TablePasses, DescPasses}
use Rattle.typed_values.specs.Denotes.{Told, below, just, if_holds, by_presence, if_absent, if_present, all_told, and_then, and_rest, as_tree}
use Rattle.typed_values.specs.Fits.{field_desc, words_fit, option_fits, fields_fit, parts_fit, fits_under, Fits}
use Rattle.typed_values.specs.Levels.{DescLevel, TreeOf}
use Rattle.typed_values.specs.Parts.{the_whole, IsPart, of_whole}
use Rattle.typed_values.proofs.CallerLemmas.{fits_option, fits_struct, fits_text, fields_distinct, is_right, skipped_row}
use Rattle.flat_maps.specs.Flat.{resolved, given_told, looked_up, fields_told, flat_fields, fields_by, under_struct, flat_told, FlatDenotes}
use Rattle.flat_maps.specs.declared.map_error.MapError.{MapError}
use Rattle.flat_maps.specs.Given.{Names}
use Rattle.flat_maps.specs.MapErrors.{AnswersAs}
use Rattle.flat_maps.specs.Maps.{map_values}
use Rattle.flat_maps.specs.TextMaps.{TextEntry, entry_name, FieldText, WrittenTexts, text_alone, text_behind, optional_text, optional_behind, field_text, entries_with, before_rest, texts_written, in_name_order, map_by, map_behind, map_written}
use Rattle.scalar_texts.specs.Texts.{text_told}
use Rattle.flat_maps.specs.TextStructs.{IsText, IsOptionalText, IsNoneIfAbsent, IsTextField, of_text, of_option, IsTextStruct}
use Rattle.flat_maps.proofs.Chosen.{skipped_text}
use Rattle.flat_maps.proofs.EntryLookups.{under, lacks, under_first, under_later, under_none, under_sorted}
use Rattle.flat_maps.proofs.FlatFits.{IsSameAs, same_as, field_part, required_desc, nullable_desc, skipped_desc, default_desc}
use Rattle.scalar_texts.proofs.CallerLemmas.{rests, option_part, text_row}
use Rattle.flat_maps.proofs.TextLoops.{without, written_distinct}

-- a text that stands in a tree
record IsTextTree (t : Tree) (o : Option (List ℕ)) : Type 0 where
  text : List ℕ
  there : o ≡ Some text
  tree : out-Tree t ≡ Tree-F.Text text

-- what is written of a text alone is its tree's
text_tree : (table : List Definition) (min max : Option ℕ) (format : Option (List ℕ)) (t : Tree) (x : TreeOf Tree) → out-Tree t ≡ x → (o : Option (List ℕ)) → text_alone table (Desc-F.Text min max format) x ≡ Ok o → IsTextTree t o
text_tree table min max format t (Tree-F.Text text) e o h = record { text = text; there = cc h; tree = e }
text_tree table min max format t _ e o h = absurd (cc h)

words_back : (t : Tree) (text : List ℕ) → out-Tree t ≡ Tree-F.Text text → t ≡ Words text
words_back t text e = sym (roll-out-Tree t) ∙ ap roll-Tree e ∙ tree.rolls-Text text

none_back : (t : Tree) → out-Tree t ≡ Tree-F.None → t ≡ Nothing
none_back t e = sym (roll-out-Tree t) ∙ ap roll-Tree e ∙ tree.rolls-None

some_back : (t x : Tree) → out-Tree t ≡ Tree-F.Some x → t ≡ Just x
some_back t x e = sym (roll-out-Tree t) ∙ ap roll-Tree e ∙ tree.rolls-Some x

both_true : (a b : Bool) → (a && b) ≡ true → (a ≡ true) × (b ≡ true)
both_true true b e = (refl, e)
both_true false b e = absurd (cc e)

-- a tree of an option, and the text that it holds, if any
data IsOptionTree (table : List Definition) (x : Desc) (t : Tree) (o : Option (List ℕ)) : Type 0 where
  holds_none : t ≡ Nothing → o ≡ None → IsOptionTree table x t o
  holds_text : (y : Tree) (text : List ℕ) → t ≡ Just y → o ≡ Some text → text_told table text x ≡ Ok y → IsOptionTree table x t o

-- what a field denotes, where a text stands under its name, or none
abbrev given_back : List Definition → Field → Option (List ℕ) → Told
given_back table f o = by_presence f (option_map (given_told table f.desc) (option_map String o))

module _ (table : List Definition) (f : Field) (p : Presence) (q : f.presence ≡ p) (o : Option (List ℕ)) where
  present : (text : List ℕ) → o ≡ Some text → (u : Tree) → text_told table text f.desc ≡ Ok u → given_back table f o ≡ if_present p (Ok u)
  present text e u told =
      ap (given_back table f) e ∙ ap (λ (a : Told). if_present f.presence (below (Name f.name) a)) told ∙ ap (λ (r : Presence). if_present r (Ok u)) q

  absent : o ≡ None → given_back table f o ≡ if_absent p f.name
  absent e = ap (given_back table f) e ∙ ap (λ (r : Presence). if_absent r f.name) q

module _ (table : List Definition) (whole : Desc) (passes : TablePasses table) (right : DescPasses table whole) where
  -- a text that fits is denoted
  text_back : (d : Desc) → IsPart table whole d → IsText table d → (t : Tree) → fits_under table whole t d ≡ true → (o : Option (List ℕ)) → text_behind table (resolved table d) t ≡ Ok o
      → (text : List ℕ) × (o ≡ Some text) × (text_told table text d ≡ Ok t)
  text_back d part (r, min, max, format, q, e) t fit o h =
      let same = same_as table whole passes right d r part q in
      let alone : text_alone table (Desc-F.Text min max format) (out-Tree t) ≡ Ok o =
      sym (ap (λ (p : Option Desc). text_behind table p t) q ∙ ap (λ (x : DescLevel). text_alone table x (out-Tree t)) e) ∙ h in
      let it = text_tree table min max format t (out-Tree t) refl o alone in
      let is : r ≡ desc.Text min max format = sym (roll-out-Desc r) ∙ ap roll-Desc e ∙ desc.rolls-Text min max format in
      let within : is_length_within min max (length it.text) ≡ true =
      ap (words_fit min max) (sym it.tree) ∙ sym (same.same t ∙ fits_text table whole t r (rests table whole passes.guarded r same.part) min max format is) ∙ fit in (
        it.text,
        it.there,
        same.told it.text
            ∙ text_row table it.text passes.guarded r (Desc-F.Text min max format) e
            ∙ ap (λ (b : Bool). if_holds b BadLength (Ok (Words it.text))) within
            ∙ ap Ok (sym (words_back t it.text it.tree)),
      )

  option_back : (x : Desc) → IsPart table whole x → IsText table x → (t : Tree) (y : TreeOf Tree) → out-Tree t ≡ y → option_fits (λ s. fits_under table whole s x) y ≡ true → (o : Option (List ℕ))
      → optional_text table (Desc-F.Option x) y ≡ Ok o → IsOptionTree table x t o
  option_back x part text t Tree-F.None e fit o h = holds_none (none_back t e) (cc h)
  option_back x part text t (Tree-F.Some y) e fit o h = let (words, there, told) = text_back x part text y fit o h in holds_text y words (some_back t y e) there told
  option_back x part text t _ e fit o h = absurd (cc h)

  module _ (f : Field) (part : IsPart table whole f.desc) (t : Tree) (o : Option (List ℕ)) where
    -- under a text, which is always there
    plain_back : (p : Presence) → f.presence ≡ p → ((u : Tree) → if_present p (Ok u) ≡ Ok u) → IsText table f.desc → fits_under table whole t f.desc ≡ true → optional_behind table (resolved table f.desc) t ≡ Ok o → given_back table f o ≡ Ok t
    plain_back p q bare text fit h =
        let (r, min, max, format, s, e) = text in
        let same : optional_behind table (resolved table f.desc) t ≡ text_behind table (resolved table f.desc) t =
        ap (λ (a : Option Desc). optional_behind table a t) s ∙ ap (λ (x : DescLevel). optional_text table x (out-Tree t)) e
        ∙ sym (ap (λ (a : Option Desc). text_behind table a t) s ∙ ap (λ (x : DescLevel). text_alone table x (out-Tree t)) e) in
        let (words, there, told) = text_back f.desc part text t fit o (sym same ∙ h) in
        present table f p q o words there t told ∙ bare t

    -- under an option that stands there
    optional_back : (p : Presence) → f.presence ≡ p → ((u : Tree) → if_present p (Ok u) ≡ Ok u) → if_absent p f.name ≡ Ok Nothing → IsOptionalText table f.desc → fits_under table whole t f.desc ≡ true → optional_behind table (resolved table f.desc) t ≡ Ok o
        → given_back table f o ≡ Ok t
    optional_back p q bare none (r, x, s, e, text) fit h =
        let same = same_as table whole passes right f.desc r part s in
        let is : r ≡ desc.Option x = sym (roll-out-Desc r) ∙ ap roll-Desc e ∙ desc.rolls-Option x in
        let fits : option_fits (λ u. fits_under table whole u x) (out-Tree t) ≡ true = sym (same.same t ∙ fits_option table whole t r (rests table whole passes.guarded r same.part) x is) ∙ fit in
        let written : optional_text table (Desc-F.Option x) (out-Tree t) ≡ Ok o =
        sym (ap (λ (a : Option Desc). optional_behind table a t) s ∙ ap (λ (y : DescLevel). optional_text table y (out-Tree t)) e) ∙ h in
        elim (option_back x (option_part x same.part e) text t (out-Tree t) refl fits o written) [
          | holds_none is_none is_nothing ↦ absent table f p q o is_nothing ∙ none ∙ ap Ok (sym is_none)
          | holds_text y words is_some there told ↦
              present table f p q o words there (Just y) (same.told words ∙ text_row table words passes.guarded r (Desc-F.Option x) e ∙ ap just told)
              ∙ bare (Just y)
              ∙ ap Ok (sym is_some)
        ]

    skipped_written : f.presence ≡ Skipped → field_text table f t ≡ Ok o → optional_text table (Desc-F.Option f.desc) (out-Tree t) ≡ Ok o
    skipped_written q h = sym (skipped_text table passes.guarded f q t) ∙ h

    skipped_fits : f.presence ≡ Skipped → fits_under table whole t (field_desc f) ≡ true → option_fits (λ s. fits_under table whole s f.desc) (out-Tree t) ≡ true
    skipped_fits q fit = sym (ap (fits_under table whole t) (skipped_desc f q) ∙ skipped_row table whole t f.desc) ∙ fit

    skipped_back : f.presence ≡ Skipped → IsOptionTree table f.desc t o → given_back table f o ≡ Ok t
    skipped_back q (holds_none is is_nothing) = absent table f Skipped q o is_nothing ∙ ap Ok (sym is)
    skipped_back q (holds_text y words is there told) = present table f Skipped q o words there y told ∙ ap Ok (sym is)

    -- an option of an option has no text
    twice_back : f.presence ≡ Skipped → (r x : Desc) → resolved table f.desc ≡ Some r → out-Desc r ≡ Desc-F.Option x → (y : TreeOf Tree) → out-Tree t ≡ y → optional_text table (Desc-F.Option f.desc) y ≡ Ok o → given_back table f o ≡ Ok t
    twice_back q r x s e Tree-F.None is h = absent table f Skipped q o (cc h) ∙ ap Ok (sym (none_back t is))
    twice_back q r x s e (Tree-F.Some y) is h =
        let never : text_alone table (Desc-F.Option x) (out-Tree y) ≡ Ok o =
        sym (ap (λ (a : Option Desc). text_behind table a y) s ∙ ap (λ (z : DescLevel). text_alone table z (out-Tree y)) e) ∙ h in
        absurd (cc never)
    twice_back q r x s e _ is h = absurd (cc h)

    field_back : (p : Presence) → f.presence ≡ p → IsTextField table f → fits_under table whole t (field_desc f) ≡ true → field_text table f t ≡ Ok o → given_back table f o ≡ Ok t
    field_back Required q (of_text text) fit h =
        plain_back Required q (λ u. refl) text (subst (λ (d : Desc). fits_under table whole t d ≡ true) (required_desc f q) fit) (subst (λ (d : Desc). optional_behind table (resolved table d) t ≡ Ok o) (required_desc f q) h)
    field_back Nullable q (of_text text) fit h =
        plain_back Nullable q (λ u. refl) text (subst (λ (d : Desc). fits_under table whole t d ≡ true) (nullable_desc f q) fit) (subst (λ (d : Desc). optional_behind table (resolved table d) t ≡ Ok o) (nullable_desc f q) h)
    field_back Skipped q (of_text text) fit h = skipped_back q (option_back f.desc part text t (out-Tree t) refl (skipped_fits q fit) o (skipped_written q h))
    field_back (Default s) q (of_text text) fit h =
        plain_back (Default s) q (λ u. refl) text (subst (λ (d : Desc). fits_under table whole t d ≡ true) (default_desc f s q) fit) (subst (λ (d : Desc). optional_behind table (resolved table d) t ≡ Ok o) (default_desc f s q) h)
    field_back Required q (of_option text none) fit h = absurd (subst IsNoneIfAbsent q none)
    field_back Nullable q (of_option text none) fit h =
        optional_back Nullable q (λ u. refl) refl text (subst (λ (d : Desc). fits_under table whole t d ≡ true) (nullable_desc f q) fit) (subst (λ (d : Desc). optional_behind table (resolved table d) t ≡ Ok o) (nullable_desc f q) h)
    field_back Skipped q (of_option (r, x, s, e, text) none) fit h = twice_back q r x s e (out-Tree t) refl (skipped_written q h)
    field_back (Default s) q (of_option text none) fit h =
        optional_back (Default s) q (λ u. refl) (ap Ok (subst IsNoneIfAbsent q none)) text (subst (λ (d : Desc). fits_under table whole t d ≡ true) (default_desc f s q) fit)
        (subst (λ (d : Desc). optional_behind table (resolved table d) t ≡ Ok o) (default_desc f s q) h)

  module _ (names : Names) where
    -- the names of some fields have what entries have
    abbrev Show : List TextEntry → List Field → Type 0
    Show es fs = AllByRecursion (λ f. names f.name ≡ option_map String (under f.name es)) fs

    shown_behind : (name text : List ℕ) (es : List TextEntry) (fs : List Field) → AllByRecursion (λ other. name ≢ other) (map field_name fs) → Show ((name, text) ∷ es) fs → Show es fs
    shown_behind name text es [] h shown = tt
    shown_behind name text es (f ∷ fs) h shown = (
      shown.0 ∙ ap (option_map String) (under_later f.name (name, text) es (λ same. h.0 (sym same))),
      shown_behind name text es fs h.1 shown.1,
    )

    -- the first field has its text, and the others have theirs
    record IsShown (f : Field) (fs : List Field) (o : Option (List ℕ)) (es : List TextEntry) : Type 0 where
      first : names f.name ≡ option_map String o
      others : Show es fs

    first_shown : (f : Field) (fs : List Field) (o : Option (List ℕ)) (ds : List TextEntry) → AllByRecursion (λ other. f.name ≢ other) (map field_name fs) → AllByRecursion (λ other. f.name ≢ other) (map entry_name ds) → Show (entries_with f.name o ds) (f ∷ fs) → IsShown f fs o ds
    first_shown f fs None ds h k shown = record { first = shown.0 ∙ ap (option_map String) (under_none f.name ds (lacks f.name ds k)); others = shown.1 }
    first_shown f fs (Some text) ds h k shown = record { first = shown.0 ∙ ap (option_map String) (under_first f.name text ds); others = shown_behind f.name text ds fs h shown.1 }

    abbrev value : ℕ → Field → Told
    value i f = by_presence f (looked_up table names f)

    all_back : (fs : List Field) (ts : List Tree) (es : List TextEntry) (k : ℕ) → ((f : Field) → Contains fs f → IsPart table whole f.desc) → ((f : Field) → Contains fs f → IsTextField table f) → AreDistinct (map field_name fs)
        → fields_fit (fits_under table whole) fs ts ≡ true → texts_written table fs ts ≡ Ok es → Show es fs → all_told value k fs ≡ Ok ts
    all_back [] [] es k part text h fit e shown = refl
    all_back [] (t ∷ ts) es k part text h fit e shown = absurd (cc fit)
    all_back (f ∷ fs) [] es k part text h fit e shown = absurd (cc fit)
    all_back (f ∷ fs) (t ∷ ts) es k part text h fit e shown =
        by_text (λ ds fit. all_back fs ts ds (k + 1) (λ g c. part g (contains_later f fs g c)) (λ g c. text g (contains_later f fs g c)) h.1 fit) (field_text table f t) refl (texts_written table fs ts) refl e
      where
        by_text : ((ds : List TextEntry) → fields_fit (fits_under table whole) fs ts ≡ true → texts_written table fs ts ≡ Ok ds → Show ds fs → all_told value (k + 1) fs ≡ Ok ts)
            → (a : FieldText) → field_text table f t ≡ a → (rest : WrittenTexts) → texts_written table fs ts ≡ rest → before_rest f.name a rest ≡ Ok es → all_told value k (f ∷ fs) ≡ Ok (t ∷ ts)
        by_text more (Ok o) q (Ok ds) r e =
            let both = both_true (fits_under table whole t (field_desc f)) (fields_fit (fits_under table whole) fs ts) fit in
            let is : entries_with f.name o ds ≡ es = cc e in
            let it = first_shown f fs o ds h.0 (without f.name table fs ts ds h.0 r) (subst (λ (xs : List TextEntry). Show xs (f ∷ fs)) (sym is) shown) in
            let one : value k f ≡ Ok t = ap (λ (a : Option VariableValue). by_presence f (option_map (given_told table f.desc) a)) it.first ∙ field_back f (part f (contains_first f fs)) t o f.presence refl (text f (contains_first f fs)) both.0 q in
            ap (λ (a : Told). and_then a (all_told value (k + 1) fs)) one ∙ ap (and_rest t) (more ds both.1 r it.others)
        by_text more (Ok o) q (Err text) r e = absurd (cc e)
        by_text more (Err text) q rest r e = absurd (cc e)

    all_shown : (es : List TextEntry) (fs : List Field) → ((name : List ℕ) → names name ≡ option_map String (under name es)) → Show es fs
    all_shown es [] shown = tt
    all_shown es (f ∷ fs) shown = (shown f.name, all_shown es fs shown)

    module _ (t : Tree) (entries : List TextEntry) (shown : (name : List ℕ) → names name ≡ option_map String (under name entries)) (fit : fits_under table whole t whole ≡ true) where
      tree_back : (r : Desc) → IsSameAs table whole passes right whole r → (fs : List Field) → out-Desc r ≡ Desc-F.Struct fs false → ((f : Field) → Contains fs f → IsTextField table f) → (y : TreeOf Tree) → out-Tree t ≡ y → map_by table (Desc-F.Struct fs false) y ≡ Ok entries
          → fields_told (looked_up table names) fs ≡ Ok t
      tree_back r same fs e texts (Tree-F.Fields ts) is h = by_texts (texts_written table fs ts) refl h
        where
          by_texts : (a : WrittenTexts) → texts_written table fs ts ≡ a → in_name_order a ≡ Ok entries → fields_told (looked_up table names) fs ≡ Ok t
          by_texts (Ok es) q h =
              let struct : r ≡ desc.Struct fs false = sym (roll-out-Desc r) ∙ ap roll-Desc e ∙ desc.rolls-Struct fs false in
              let fits : fields_fit (fits_under table whole) fs ts ≡ true =
              ap (parts_fit (fits_under table whole) fs) (sym is) ∙ sym (same.same t ∙ fits_struct table whole t r (rests table whole passes.guarded r same.part) fs false struct) ∙ fit in
              let apart = fields_distinct table r fs false e (is_right table whole r passes right same.part) in
              let order : sorted_by entry_name es ≡ entries = cc h in
              let each = all_shown es fs (λ name. shown name ∙ ap (option_map String) (sym (ap (under name) order) ∙ under_sorted name es (written_distinct table fs ts es apart q))) in
              ap (as_tree Parts) (all_back fs ts es 0 (λ f c. field_part table whole passes right r fs false f same.part e c) texts apart fits q each) ∙ ap Ok (sym (sym (roll-out-Tree t) ∙ ap roll-Tree is ∙ tree.rolls-Fields ts))
          by_texts (Err text) q h = absurd (cc h)
      tree_back r same fs e texts _ is h = absurd (cc h)

      struct_back : (r : Desc) → IsSameAs table whole passes right whole r → (x : DescLevel) → out-Desc r ≡ x → (fs : List Field) → fields_by x ≡ Some fs → ((f : Field) → Contains fs f → IsTextField table f) → map_by table x (out-Tree t) ≡ Ok entries
          → fields_told (looked_up table names) fs ≡ Ok t
      struct_back r same (Desc-F.Struct gs false) e fs q texts h =
          let is : gs ≡ fs = cc q in
          tree_back r same fs (e ∙ ap (λ (xs : List Field). Desc-F.Struct xs false) is) texts (out-Tree t) refl (subst (λ (xs : List Field). map_by table (Desc-F.Struct xs false) (out-Tree t) ≡ Ok entries) is h)
      struct_back r same _ e fs q texts h = absurd (cc q)

      whole_back : (a : Option Desc) → resolved table whole ≡ a → (fs : List Field) → flat_fields a ≡ Some fs → ((f : Field) → Contains fs f → IsTextField table f) → map_behind table a t ≡ Ok entries → fields_told (looked_up table names) fs ≡ Ok t
      whole_back None q fs e texts h = absurd (cc e)
      whole_back (Some r) q fs e texts h = struct_back r (same_as table whole passes right whole r (of_whole the_whole) q) (out-Desc r) refl fs e texts h

-- what a struct of texts is written as denotes it
read_back : (table : List Definition) (d : Desc) (names : Names) (t : Tree) (entries : List TextEntry) → TablePasses table → DescPasses table d → ((name : List ℕ) → names name ≡ option_map String (under name entries)) → map_written table d t ≡ Ok entries → IsTextStruct table d → Fits table d t
    → flat_told table names d ≡ Ok t
read_back table d names t entries passes right shown written struct fit =
    ap (under_struct (fields_told (looked_up table names))) struct.flat ∙ whole_back table d passes right names t entries shown fit (resolved table d) refl struct.fields struct.flat struct.texts written

pub answer_back : (table : List Definition) (d : Desc) (t : Tree) → TablePasses table → DescPasses table d → (result : Result (BTreeMap (List ℕ) (List ℕ)) MapError) → AnswersAs (λ m. m.entries) result (map_written table d t) → IsTextStruct table d → Fits table d t
    → IfOk result (λ m. FlatDenotes table d (map_values String m) t)
answer_back table d t passes right (Ok m) told struct fit = read_back table d (map_values String m) t m.entries passes right (λ name. refl) told struct fit
answer_back table d t passes right (Err error) told struct fit = tt
