-- The trees of structs, by those of their fields.
use Rattle.std.proofs.Common.{◌≡◌, ◌↔◌, ℕ, Bool, true, List, [], ◌∷◌, ◌++◌, map, refl, sym, ◌∙◌, ap, subst, arith, ◌⊎◌, inl, inr}
use Rattle.std.proofs.lemmas.List.{map-append}
use Rattle.std.proofs.lemmas.List.Elements.{Contains-append_left, Contains-append_right, Contains-append_cases}
use Rattle.std.specs.Prelude.{Contains}
use Rattle.descriptors.specs.declared.desc.Desc.{Desc, out-Desc}
use Rattle.descriptors.specs.declared.desc.Desc.TheOpen.{Desc-F}
use Rattle.descriptors.specs.declared.desc.Desc.TheVariants as descs
use Rattle.descriptors.specs.declared.desc.Field.{Field}
use Rattle.descriptors.specs.declared.desc.Presence.{Presence}
use Rattle.descriptors.specs.declared.desc.Presence.TheVariants.{Required, Nullable, Skipped, Default}
use Rattle.descriptors.specs.declared.table.Definition.{Definition}
use Rattle.descriptors.specs.declared.tree.Tree.{Tree, out-Tree}
use Rattle.descriptors.specs.declared.tree.Tree.TheOpen.{Tree-F}
use Rattle.descriptors.specs.declared.tree.Tree.TheVariants as trees
use Rattle.descriptors.specs.declared.tree.Tree.TheViews.{roll-Tree, roll-out-Tree}
use Rattle.typed_values.specs.Checks.{TakesNull, of_struct, null_twice}
use Rattle.descriptors.specs.Definitions.{definition_name}
use Rattle.typed_values.specs.Fits.{field_desc, option_fits, fields_fit, parts_fit, fits_under}
use Rattle.typed_values.specs.Levels.{TreeOf}
use Rattle.typed_values.specs.Parts.{the_whole, in_option, in_field, IsPart, of_whole}
use Rattle.typed_values.specs.Reached.{Mentions, IsReached, directly, through}
use Rattle.schema_values.proofs.CallerLemmas.{contains_first, contains_later, contains_cases}
use Rattle.typed_values.proofs.CallerLemmas.{fits_option, fits_struct, skipped_row, parts_at, inner_passes, same_fits}
use Rattle.api_types.specs.Structs.{Part, definitions_in, fields_in, AreParts, FieldsFitEach, FieldsFitOne}
use Rattle.api_types.specs.Types.{HoldsAll, IsTableOf, FitsEach, FitsOne, ReachesExactly}
use Rattle.api_types.proofs.Forms.{both}
use Rattle.api_types.proofs.Inner.{part_each, part_one}
use Rattle.api_types.proofs.Options.{option_passes}
use Rattle.api_types.proofs.Reaching.{rests, reached_by}

-- a name is reached by one of some fields
abbrev SomeReaches : List Definition → List Field → List ℕ → Type 0
SomeReaches table fs name = (f : Field) × Contains fs f × IsReached table f.desc name

-- some fields reach the names of some definitions, and no other
abbrev FieldsReach : List Definition → List Field → Type 0
FieldsReach ds fs = (table : List Definition) → HoldsAll table ds → (name : List ℕ) → SomeReaches table fs name ↔ Contains (map definition_name ds) name

module _ (ds es : List Definition) (f : Field) (fs : List Field) where
  names_split : map definition_name (ds ++ es) ≡ map definition_name ds ++ map definition_name es
  names_split = map-append definition_name ds es

  of_one : {table : List Definition} {name : List ℕ} → SomeReaches table (f ∷ fs) name → IsReached table f.desc name ⊎ SomeReaches table fs name
  of_one {table} {name} (g, c, r) =
      elim (contains_cases f fs g c) [
        | inl same ↦ inl (subst (λ (h : Field). IsReached table h.desc name) (sym same) r)
        | inr later ↦ inr (g, later, r)
      ]

  one_more : ReachesExactly ds f.desc → FieldsReach es fs → FieldsReach (ds ++ es) (f ∷ fs)
  one_more first rest table held name =
      let names = map definition_name ds in
      let others = map definition_name es in
      let here = first table (λ e c. held e (Contains-append_left ds es e c)) name in
      let there = rest table (λ e c. held e (Contains-append_right ds es e c)) name in (
        λ r. subst (λ (ns : List (List ℕ)). Contains ns name) (sym names_split)
            (elim (of_one r) [ inl now ↦ Contains-append_left names others name (here.0 now) | inr later ↦ Contains-append_right names others name (there.0 later) ]),
        λ c. elim (Contains-append_cases names others name (subst (λ (ns : List (List ℕ)). Contains ns name) names_split c)) [
          | inl now ↦ (f, contains_first f fs, here.1 now)
          | inr later ↦ let (g, inside, r) = there.1 later in (g, contains_later f fs g inside, r)
        ],
      )

fields_reach : (ps : List Part) → AreParts ps → FieldsReach (definitions_in ps) (fields_in ps)
fields_reach [] right = λ table held name. (λ r. absurd (omega (arith, r.1.1)), λ c. absurd (omega (arith, c.1)))
fields_reach (p ∷ ps) right = one_more p.0 (definitions_in ps) p.1 (fields_in ps) right.0 (fields_reach ps right.1)

module _ (fs : List Field) (deny : Bool) where
  abbrev struct_desc : Desc
  struct_desc = descs.Struct fs deny

  mentions : (name : List ℕ) → Mentions struct_desc name ↔ ((f : Field) × Contains fs f × Mentions f.desc name)
  mentions name =
      parts_at (λ d. out-Desc d ≡ Desc-F.Ref name) struct_desc (Desc-F.Struct fs deny) (descs.outs-Struct fs deny)
      (λ q. let levels : Desc-F.Struct fs deny ≡ Desc-F.Ref name = sym (descs.outs-Struct fs deny) ∙ q in absurd (cc levels))

  by_some : {table : List Definition} (name : List ℕ) → IsReached table struct_desc name → SomeReaches table fs name
  by_some _ (directly name m) = let (f, c, inside) = (mentions name).0 m in (f, c, directly name inside)
  by_some _ (through other name e r found m) = let (f, c, inside) = by_some other r in (f, c, through other name e inside found m)

-- a field's tree is one of its descriptor, or the field may be left out
kept_or_skipped : (f : Field) → (field_desc f ≡ f.desc) ⊎ (f.presence ≡ Skipped)
kept_or_skipped f = under f.presence refl where
  under : (p : Presence) → f.presence ≡ p → (field_desc f ≡ f.desc) ⊎ (f.presence ≡ Skipped)
  under Required e = inl (rw e refl)
  under Nullable e = inl (rw e refl)
  under Skipped e = inr e
  under (Default tree) e = inl (rw e refl)

skipped_is : (f : Field) → f.presence ≡ Skipped → field_desc f ≡ descs.Option f.desc
skipped_is f e = rw e refl

option_same : (f g : Tree → Bool) → ((t : Tree) → f t ≡ g t) → (x : TreeOf Tree) → option_fits f x ≡ option_fits g x
option_same f g same (Tree-F.Some t) = same t
option_same f g same Tree-F.None = refl
option_same f g same _ = refl

module _ (whole : List Part) (deny : Bool) where
  abbrev ds : List Definition
  ds = definitions_in whole

  abbrev desc : Desc
  desc = descs.Struct (fields_in whole) deny

  -- the definitions and the fields of some parts are of the whole
  record Inside (ps : List Part) : Type 0 where
    definitions : (e : Definition) → Contains (definitions_in ps) e → Contains ds e
    fields : (f : Field) → Contains (fields_in ps) f → Contains (fields_in whole) f

  all_inside : Inside whole
  all_inside = record { definitions = λ e c. c; fields = λ f c. c }

  module _ (p : Part) (ps : List Part) (inside : Inside (p ∷ ps)) where
    rest_inside : Inside ps
    rest_inside = record { definitions = λ e c. inside.definitions e (Contains-append_right p.0 (definitions_in ps) e c); fields = λ f c. inside.fields f (contains_later p.1 (fields_in ps) f c) }

    abbrev fewer : (e : Definition) → Contains p.0 e → Contains ds e
    fewer = λ e c. inside.definitions e (Contains-append_left p.0 (definitions_in ps) e c)

    is_field : Contains (fields_in whole) p.1
    is_field = inside.fields p.1 (contains_first p.1 (fields_in ps))

    stands_there : (table : List Definition) → IsTableOf ds desc table → IsPart table desc p.1.desc
    stands_there table is = of_whole (in_field (fields_in whole) deny p.1 the_whole (descs.outs-Struct (fields_in whole) deny) is_field)

    module _ (skipped : p.1.presence ≡ Skipped) (table : List Definition) (is : IsTableOf ds desc table) where
      abbrev option : Desc
      option = descs.Option p.1.desc

      -- a field that may be left out does not take null
      no_null : TakesNull table p.1.desc → ⊥
      no_null takes = (is.desc_passes desc the_whole).presences (p.1, of_struct (fields_in whole) deny (descs.outs-Struct (fields_in whole) deny) is_field, null_twice skipped takes)

      option_table : IsTableOf p.0 option table
      option_table = record {
        holds = λ e c. is.holds e (fewer e c);
        table_passes = is.table_passes;
        desc_passes = option_passes p.1.desc table no_null (inner_passes table desc p.1.desc (stands_there table is) is.table_passes is.desc_passes);
      }

      in_both : (t : Tree) → fits_under table desc t p.1.desc ≡ fits_under table option t p.1.desc
      in_both t =
          same_fits table desc p.1.desc (stands_there table is) is.table_passes.guarded t
          ∙ sym (same_fits table option p.1.desc (of_whole (in_option p.1.desc the_whole (descs.outs-Option p.1.desc))) is.table_passes.guarded t)

      same_option : (t : Tree) → fits_under table desc t option ≡ fits_under table option t option
      same_option t =
          skipped_row table desc t p.1.desc
          ∙ option_same (λ s. fits_under table desc s p.1.desc) (λ s. fits_under table option s p.1.desc) in_both (out-Tree t)
          ∙ sym (fits_option table option t option (rests option_table) p.1.desc refl)

    first_each : (t : Tree) → FitsEach p.0 (field_desc p.1) t → (table : List Definition) → IsTableOf ds desc table → fits_under table desc t (field_desc p.1) ≡ true
    first_each t each table is =
        elim (kept_or_skipped p.1) [
          | inl kept ↦
              subst (λ (d : Desc). fits_under table desc t d ≡ true) (sym kept)
              (part_each ds p.0 desc p.1.desc fewer stands_there t (subst (λ (d : Desc). FitsEach p.0 d t) kept each) table is)
          | inr skipped ↦
              subst (λ (d : Desc). fits_under table desc t d ≡ true) (sym (skipped_is p.1 skipped))
              (same_option skipped table is t ∙ subst (λ (d : Desc). FitsEach p.0 d t) (skipped_is p.1 skipped) each table (option_table skipped table is))
        ]

    first_one : (t : Tree) (table : List Definition) → IsTableOf ds desc table → fits_under table desc t (field_desc p.1) ≡ true → FitsOne p.0 (field_desc p.1) t
    first_one t table is fit =
        elim (kept_or_skipped p.1) [
          | inl kept ↦
              subst (λ (d : Desc). FitsOne p.0 d t) (sym kept)
              (part_one ds p.0 desc p.1.desc fewer stands_there t table is (subst (λ (d : Desc). fits_under table desc t d ≡ true) kept fit))
          | inr skipped ↦
              subst (λ (d : Desc). FitsOne p.0 d t) (sym (skipped_is p.1 skipped))
              (table, option_table skipped table is, sym (same_option skipped table is t) ∙ subst (λ (d : Desc). fits_under table desc t d ≡ true) (skipped_is p.1 skipped) fit)
        ]

  each_part : (ps : List Part) → Inside ps → (ts : List Tree) → FieldsFitEach ps ts → (table : List Definition) → IsTableOf ds desc table → fields_fit (fits_under table desc) (fields_in ps) ts ≡ true
  each_part [] inside [] fit table is = refl
  each_part [] inside (t ∷ ts) fit table is = absurd fit
  each_part (p ∷ ps) inside [] fit table is = absurd fit
  each_part (p ∷ ps) inside (t ∷ ts) fit table is = rw (first_each p ps inside t fit.0 table is) (each_part ps (rest_inside p ps inside) ts fit.1 table is)

  one_part : (ps : List Part) → Inside ps → (ts : List Tree) (table : List Definition) → IsTableOf ds desc table → fields_fit (fits_under table desc) (fields_in ps) ts ≡ true → FieldsFitOne ps ts
  one_part [] inside [] table is fit = tt
  one_part [] inside (t ∷ ts) table is fit = absurd (cc fit)
  one_part (p ∷ ps) inside [] table is fit = absurd (cc fit)
  one_part (p ∷ ps) inside (t ∷ ts) table is fit =
      let (first, rest) = both (fits_under table desc t (field_desc p.1)) (fields_fit (fits_under table desc) (fields_in ps) ts) fit in
      (first_one p ps inside t table is first, one_part ps (rest_inside p ps inside) ts table is rest)

  pub struct_reaches : AreParts whole → ReachesExactly ds desc
  struct_reaches right table held name =
      let each = fields_reach whole right table held name in (
        λ r. each.0 (by_some (fields_in whole) deny name r),
        λ c. let (f, inside, r) = each.1 c in reached_by (λ n m. (mentions (fields_in whole) deny n).1 (f, inside, m)) name r,
      )

  pub struct_each : (ts : List Tree) → FieldsFitEach whole ts → FitsEach ds desc (trees.Fields ts)
  struct_each ts fit table is =
      fits_struct table desc (trees.Fields ts) desc (rests is) (fields_in whole) deny refl
      ∙ ap (parts_fit (fits_under table desc) (fields_in whole)) (trees.outs-Fields ts)
      ∙ each_part whole all_inside ts fit table is

  fields_form : (t : Tree) (fits : Tree → Desc → Bool) (x : TreeOf Tree) → roll-Tree x ≡ t → parts_fit fits (fields_in whole) x ≡ true → (ts : List Tree) × (t ≡ trees.Fields ts)
  fields_form t fits (Tree-F.Fields ts) is fit = (ts, sym is ∙ trees.rolls-Fields ts)
  fields_form t fits _ is fit = absurd (cc fit)

  pub struct_one : (t : Tree) → FitsOne ds desc t → (ts : List Tree) × (t ≡ trees.Fields ts)
  struct_one t (table, is, fit) = fields_form t (fits_under table desc) (out-Tree t) (roll-out-Tree t) (sym (fits_struct table desc t desc (rests is) (fields_in whole) deny refl) ∙ fit)

  pub struct_at : (t : Tree) (ts : List Tree) → FitsOne ds desc t → t ≡ trees.Fields ts → FieldsFitOne whole ts
  struct_at t ts (table, is, fit) e =
      one_part whole all_inside ts table is
      (sym (ap (parts_fit (fits_under table desc) (fields_in whole)) (ap out-Tree e ∙ trees.outs-Fields ts)) ∙ sym (fits_struct table desc t desc (rests is) (fields_in whole) deny refl) ∙ fit)
