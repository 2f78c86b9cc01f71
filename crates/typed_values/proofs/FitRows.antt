-- What each arm of the fit test needs: its row.
use Rattle.std.proofs.Common.{arith, ◌≡◌, ◌<◌, ◌≤◌, ℕ, zero, suc, ℤ, Bool, true, false, ◌&&◌, length, map, option_map, List, [], ◌∷◌, Option, Some, refl, ◌∙◌, ap, subst}
use Rattle.std.proofs.lemmas.Bool.Decides.{nat_tests}
use Rattle.std.proofs.lemmas.Option.{slice_get-map}
use Rattle.std.specs.Prelude.{slice_get, nat_lt, nat_eq, Contains}
use Rattle.descriptors.specs.declared.desc.Desc.{Desc, Null as NullDesc, Option as OptionOf, out-Desc}
use Rattle.descriptors.specs.declared.desc.Desc.TheOpen.{Desc-F}
use Rattle.descriptors.specs.declared.desc.Desc.TheVariants as desc
use Rattle.descriptors.specs.declared.desc.Field.{Field}
use Rattle.descriptors.specs.declared.desc.IntKind.{IntKind}
use Rattle.descriptors.specs.declared.desc.Named.{Named}
use Rattle.descriptors.specs.declared.desc.TaggedVariant.{TaggedVariant}
use Rattle.descriptors.specs.declared.desc.Variant.{Variant}
use Rattle.descriptors.specs.declared.tree.Tree.{Tree, Variant as Choice, out-Tree}
use Rattle.descriptors.specs.declared.tree.Tree.TheVariants.{outs-Variant}
use Rattle.descriptors.specs.declared.desc.Presence.TheVariants.{Skipped}
use Rattle.descriptors.specs.declared.table.Definition.{Definition}
use Rattle.descriptors.specs.Definitions.{definition}
use Rattle.typed_values.specs.Denotes.{room}
use Rattle.typed_values.specs.Fits.{field_desc, fields_fit, whole_fits, nought_fits, truth_fits, number_fits, words_fit, character_fits, name_fits, option_fits, items_fit, entries_fit, parts_fit, choice_fits, if_there, alternative_at, payload_of, struct_of, fits_by, fits_under}
use Rattle.typed_values.specs.Resting.{Rests}
use Rattle.typed_values.specs.Levels.{DescLevel}
use Rattle.typed_values.proofs.FitSteps.{fits_row}
use Rattle.schema_values.proofs.CallerLemmas.{contains_first, contains_later}

module _ (table : List Definition) (whole : Desc) (t : Tree) (d : Desc) (h : Rests table (room table whole) d) where
  row_at : (y : DescLevel) → out-Desc d ≡ y → fits_under table whole t d ≡ fits_by table (fits_under table whole) (fits_under table whole t) y (out-Tree t)
  row_at y e = fits_row table whole t d h ∙ ap (λ (z : DescLevel). fits_by table (fits_under table whole) (fits_under table whole t) z (out-Tree t)) e

  pub fits_any : d ≡ desc.Any → fits_under table whole t d ≡ whole_fits (out-Tree t)
  fits_any e = row_at Desc-F.Any (ap out-Desc e ∙ desc.outs-Any)

  pub fits_never : d ≡ desc.Never → fits_under table whole t d ≡ false
  fits_never e = row_at Desc-F.Never (ap out-Desc e ∙ desc.outs-Never)

  pub fits_null : d ≡ desc.Null → fits_under table whole t d ≡ nought_fits (out-Tree t)
  fits_null e = row_at Desc-F.Null (ap out-Desc e ∙ desc.outs-Null)

  pub fits_bool : d ≡ desc.Bool → fits_under table whole t d ≡ truth_fits (out-Tree t)
  fits_bool e = row_at Desc-F.Bool (ap out-Desc e ∙ desc.outs-Bool)

  pub fits_char : d ≡ desc.Char → fits_under table whole t d ≡ character_fits (out-Tree t)
  fits_char e = row_at Desc-F.Char (ap out-Desc e ∙ desc.outs-Char)

  pub fits_int : (kind : IntKind) (min max : Option ℤ) → d ≡ desc.Int kind min max → fits_under table whole t d ≡ number_fits kind min max (out-Tree t)
  fits_int kind min max e = row_at (Desc-F.Int kind min max) (ap out-Desc e ∙ desc.outs-Int kind min max)

  pub fits_text : (min max : Option ℕ) (format : Option (List ℕ)) → d ≡ desc.Text min max format → fits_under table whole t d ≡ words_fit min max (out-Tree t)
  fits_text min max format e = row_at (Desc-F.Text min max format) (ap out-Desc e ∙ desc.outs-Text min max format)

  pub fits_enumeration : (ns : List Named) → d ≡ desc.Enumeration ns → fits_under table whole t d ≡ name_fits (λ s. fits_under table whole s NullDesc) ns (out-Tree t)
  fits_enumeration ns e = row_at (Desc-F.Enumeration ns) (ap out-Desc e ∙ desc.outs-Enumeration ns)

  pub fits_option : (x : Desc) → d ≡ desc.Option x → fits_under table whole t d ≡ option_fits (λ s. fits_under table whole s x) (out-Tree t)
  fits_option x e = row_at (Desc-F.Option x) (ap out-Desc e ∙ desc.outs-Option x)

  pub fits_list : (x : Desc) (min max : Option ℕ) → d ≡ desc.List x min max → fits_under table whole t d ≡ items_fit (λ s. fits_under table whole s x) min max (out-Tree t)
  fits_list x min max e = row_at (Desc-F.List x min max) (ap out-Desc e ∙ desc.outs-List x min max)

  pub fits_map : (x : Desc) → d ≡ desc.Map x → fits_under table whole t d ≡ entries_fit (λ s. fits_under table whole s x) (out-Tree t)
  fits_map x e = row_at (Desc-F.Map x) (ap out-Desc e ∙ desc.outs-Map x)

  pub fits_struct : (fs : List Field) (deny : Bool) → d ≡ desc.Struct fs deny → fits_under table whole t d ≡ parts_fit (fits_under table whole) fs (out-Tree t)
  fits_struct fs deny e = row_at (Desc-F.Struct fs deny) (ap out-Desc e ∙ desc.outs-Struct fs deny)

  pub fits_external : (vs : List Variant) → d ≡ desc.External vs → fits_under table whole t d ≡ choice_fits (fits_under table whole) (map payload_of vs) (out-Tree t)
  fits_external vs e = row_at (Desc-F.External vs) (ap out-Desc e ∙ desc.outs-External vs)

  pub fits_tagged : (tag : List ℕ) (vs : List TaggedVariant) → d ≡ desc.Tagged tag vs → fits_under table whole t d ≡ choice_fits (fits_under table whole) (map struct_of vs) (out-Tree t)
  fits_tagged tag vs e = row_at (Desc-F.Tagged tag vs) (ap out-Desc e ∙ desc.outs-Tagged tag vs)

  pub fits_untagged : (ds : List Desc) → d ≡ desc.Untagged ds → fits_under table whole t d ≡ choice_fits (fits_under table whole) ds (out-Tree t)
  fits_untagged ds e = row_at (Desc-F.Untagged ds) (ap out-Desc e ∙ desc.outs-Untagged ds)

  pub fits_ref : (name : List ℕ) (o : Option Desc) → d ≡ desc.Ref name → definition table name ≡ o → fits_under table whole t d ≡ if_there (fits_under table whole t) o
  fits_ref name o e f = row_at (Desc-F.Ref name) (ap out-Desc e ∙ desc.outs-Ref name) ∙ ap (if_there (fits_under table whole t)) f

pub alternative_is : (ds : List Desc) (i : ℕ) → alternative_at ds i ≡ slice_get ds i
alternative_is [] i = refl
alternative_is (d ∷ ds) zero = refl
alternative_is (d ∷ ds) (suc i) = alternative_is ds i

pub alternative_inside : (ds : List Desc) (i : ℕ) (d : Desc) → alternative_at ds i ≡ Some d → Contains ds d
alternative_inside [] i d there = absurd (cc there)
alternative_inside (x ∷ ds) zero d there = subst (Contains (x ∷ ds)) {x = x} (cc there) (contains_first x ds)
alternative_inside (x ∷ ds) (suc i) d there = contains_later x ds d (alternative_inside ds i d there)

-- a choice, with the alternative at its place
pub choice_row : (fits : Tree → Desc → Bool) (ds : List Desc) (t : Tree) (i : ℕ) (x : Tree) (o : Option Desc) → t ≡ Choice i x → slice_get ds i ≡ o → choice_fits fits ds (out-Tree t) ≡ if_there (fits x) o
choice_row fits ds t i x o e f = ap (choice_fits fits ds) (ap out-Tree e ∙ outs-Variant i x) ∙ ap (if_there (fits x)) (alternative_is ds i ∙ f)

-- the same of a thing that gives the alternative
pub given_row : {A : Type 0} (fits : Tree → Desc → Bool) (desc_of : A → Desc) (xs : List A) (t : Tree) (i : ℕ) (x : Tree) (o : Option A) → t ≡ Choice i x → slice_get xs i ≡ o
    → choice_fits fits (map desc_of xs) (out-Tree t) ≡ if_there (fits x) (option_map desc_of o)
given_row fits desc_of xs t i x o e f = choice_row fits (map desc_of xs) t i x (option_map desc_of o) e (slice_get-map desc_of xs i ∙ ap (option_map desc_of) f)

less_true : (n m : ℕ) → n < m → nat_lt n m ≡ true
less_true n m h = grind (arith, nat_tests)

-- the place of a name, with the tree of null beside it
pub place_row : (is_nought : Tree → Bool) (ns : List Named) (t : Tree) (i : ℕ) (x : Tree) → t ≡ Choice i x → i < length ns → name_fits is_nought ns (out-Tree t) ≡ is_nought x
place_row is_nought ns t i x e less = ap (name_fits is_nought ns) (ap out-Tree e ∙ outs-Variant i x) ∙ ap (λ (b : Bool). b && is_nought x) (less_true i (length ns) less)

pub skipped_desc : (f : Field) → f.presence ≡ Skipped → field_desc f ≡ OptionOf f.desc
skipped_desc f e = rw e refl

pub below_true : (n m : ℕ) → true ≡ nat_lt n m → n < m
below_true n m e = grind (arith, nat_tests)

pub below_false : (n m : ℕ) → false ≡ nat_lt n m → m ≤ n
below_false n m e = grind (arith, nat_tests)

pub unequal : (n m : ℕ) → (n ≡ m → ⊥) → nat_eq n m ≡ false
unequal n m h = grind (arith, nat_tests)

second_false : (a b : Bool) → b ≡ false → (a && b) ≡ false
second_false true b e = e
second_false false b e = refl

-- as many trees as fields
pub lengths_differ : {X : Type 0} (fits : X → Desc → Bool) (fs : List Field) (xs : List X) → (length fs ≡ length xs → ⊥) → fields_fit fits fs xs ≡ false
lengths_differ fits [] [] h = absurd (h refl)
lengths_differ fits [] (x ∷ xs) h = refl
lengths_differ fits (f ∷ fs) [] h = refl
lengths_differ fits (f ∷ fs) (x ∷ xs) h = second_false (fits x (field_desc f)) (fields_fit fits fs xs) (lengths_differ fits fs xs (λ e. h (ap suc e)))
