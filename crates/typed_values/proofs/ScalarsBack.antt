-- What is written of a tree with no smaller ones, or of a name, is sound, and denotes the very tree.
use Rattle.std.proofs.Common.{◌≡◌, ◌≢◌, ℕ, zero, suc, ◌+◌, ◌<◌, ℤ, pos, negsuc, ◌≤ℤ◌, ◌^◌, ◌-◌, Bool, true, ◌&&◌, int_le, List, [], ◌∷◌, length, map, Option, Some, refl, sym, ◌∙◌, ap, subst, arith}
use Rattle.std.proofs.lemmas.Bool.{and_parts}
use Rattle.std.proofs.lemmas.Int.{ints}
use Rattle.std.specs.List.{AllByRecursion}
use Rattle.std.specs.Prelude.{nat_lt, slice_get}
use Rattle.schema_values.proofs.CallerLemmas.{sound-decides}
use Rattle.schema_values.specs.declared.json_value.Json.{Json, Null, Text as WordsJson, out-Json}
use Rattle.schema_values.specs.declared.json_value.Json.TheVariants as json
use Rattle.schema_values.specs.Sound.{AreDistinct, IsWhole, IsSound}
use Rattle.std.specs.declared.result.Result.TheVariants.{Ok}
use Rattle.descriptors.specs.declared.desc.Named.{Named}
use Rattle.descriptors.specs.declared.desc.IntKind.{IntKind}
use Rattle.descriptors.specs.declared.desc.IntKind.TheVariants.{I8, I16, I32, I64, U8, U16, U32, U64}
use Rattle.typed_values.specs.declared.fault.FaultKind.TheVariants.{OutOfRange, BadLength, NotListed}
use Rattle.descriptors.specs.declared.tree.Tree.{Tree, Unit as Nought, Bool as Truth, Int as Number, Text as Words, Variant as Choice, Any as Whole}
use Rattle.descriptors.specs.declared.tree.Tree.TheOpen.{Tree-F}
use Rattle.descriptors.specs.declared.tree.Tree.TheVariants as tree
use Rattle.descriptors.specs.declared.tree.Tree.TheViews.{roll-Tree}
use Rattle.typed_values.specs.Bounds.{least_of, greatest_of, is_number_of}
use Rattle.typed_values.specs.Denotes.{Told, if_holds, nought, truth, character, number, words, refused, named_from, where_found, bare, one_of_names}
use Rattle.descriptors.specs.Definitions.{listed_name}
use Rattle.typed_values.specs.Encoding.{scalar_written, whole_written, name_written, listed_written}
use Rattle.typed_values.specs.Fits.{whole_fits, nought_fits, truth_fits, number_fits, words_fit, character_fits, name_fits}
use Rattle.typed_values.specs.Levels.{TreeOf}
use Rattle.typed_values.proofs.FitRows.{below_true}
use Rattle.descriptors.proofs.CallerLemmas.{other_name, same_name}
use Rattle.typed_values.proofs.ToldTrees.{Gives}
use lib.Dec.{T}
use lib.Signed.{le_z_yes}

in_order : (a b : ℤ) → int_le a b ≡ true → a ≤ℤ b
in_order a b e = le_z_yes (subst T (sym e) tt)

through : (a b c : ℤ) → a ≤ℤ b → b ≤ℤ c → a ≤ℤ c
through a b c below above = omega (arith, ints)

-- the numbers of each kind fit 64 bits
kind_within : (kind : IntKind) → (negsuc (2 ^ 63 - 1) ≤ℤ least_of kind) × (greatest_of kind ≤ℤ pos (2 ^ 64 - 1))
kind_within I8 = (le_z_yes tt, le_z_yes tt)
kind_within I16 = (le_z_yes tt, le_z_yes tt)
kind_within I32 = (le_z_yes tt, le_z_yes tt)
kind_within I64 = (le_z_yes tt, le_z_yes tt)
kind_within U8 = (le_z_yes tt, le_z_yes tt)
kind_within U16 = (le_z_yes tt, le_z_yes tt)
kind_within U32 = (le_z_yes tt, le_z_yes tt)
kind_within U64 = (le_z_yes tt, le_z_yes tt)

-- a number of a kind fits 64 bits
pub kind_whole : (kind : IntKind) (n : ℤ) → (int_le (least_of kind) n && int_le n (greatest_of kind)) ≡ true → IsWhole n
kind_whole kind n within =
    let ends = and_parts (int_le (least_of kind) n) (int_le n (greatest_of kind)) within in
    (through _ (least_of kind) n (kind_within kind).0 (in_order (least_of kind) n ends.0), through n (greatest_of kind) _ (in_order n (greatest_of kind) ends.1) (kind_within kind).1)

whole_number : (kind : IntKind) (min max : Option ℤ) (n : ℤ) → is_number_of kind min max n ≡ true → IsWhole n
whole_number kind min max n fit = kind_whole kind n (and_parts (int_le (least_of kind) n && int_le n (greatest_of kind)) _ fit).0

-- the tree of null is one
pub nought_is : (x : TreeOf Tree) (t : Tree) → roll-Tree x ≡ t → nought_fits x ≡ true → t ≡ Nought
nought_is Tree-F.Unit t is fit = sym is ∙ tree.rolls-Unit
nought_is _ t is fit = absurd (cc fit)

-- among things of distinct names that at a place is the first of its name
module _ {X : Type 0} (name_of : X → List ℕ) where
  name_apart : (name : List ℕ) (xs : List X) (i : ℕ) (x : X) → AllByRecursion (λ other. name ≢ other) (map name_of xs) → slice_get xs i ≡ Some x → name ≢ name_of x
  name_apart name [] i x new there = absurd (cc there)
  name_apart name (y ∷ ys) zero x new there = let same : y ≡ x = cc there in subst (λ (z : X). name ≢ name_of z) same new.0
  name_apart name (y ∷ ys) (suc i) x new there = name_apart name ys i x new.1 there

  named_at : (xs : List X) (i k : ℕ) (x : X) → AreDistinct (map name_of xs) → slice_get xs i ≡ Some x → named_from name_of k xs (name_of x) ≡ Some (k + i, x)
  named_at [] i k x distinct there = absurd (cc there)
  named_at (y ∷ ys) zero k x distinct there =
      let same : y ≡ x = cc there in
      let here : k ≡ k + 0 = omega arith in
      subst (λ (z : X). named_from name_of k (z ∷ ys) (name_of x) ≡ Some (k + 0, x)) (sym same) (rw (same_name (name_of x)) (ap (λ (n : ℕ). Some (n, x)) here))
  named_at (y ∷ ys) (suc i) k x distinct there =
      let further : k + 1 + i ≡ k + suc i = omega arith in
      rw (other_name (name_of y) (name_of x) (name_apart (name_of y) ys i x distinct.0 there)) (named_at ys i (k + 1) x distinct.1 there ∙ ap (λ (n : ℕ). Some (n, x)) further)

  pub named_first : (xs : List X) (i : ℕ) (x : X) → AreDistinct (map name_of xs) → slice_get xs i ≡ Some x → named_from name_of 0 xs (name_of x) ≡ Some (i, x)
  named_first xs i x distinct there = named_at xs i 0 x distinct there ∙ ap (λ (n : ℕ). Some (n, x)) (omega arith)

-- a name stands at a place, and is written there
listed_at : (ns : List Named) (i : ℕ) → i < length ns → (n : Named) × (slice_get ns i ≡ Some n) × (name_written ns i ≡ WordsJson n.name)
listed_at [] i less = absurd (omega (arith, less))
listed_at (n ∷ ns) zero less = (n, refl, refl)
listed_at (n ∷ ns) (suc i) less = listed_at ns i (omega (arith, less))

module _ (Exact : Type 0) where
  -- a value is sound, and what it is told is a tree, and a given one where a fact holds
  abbrev pub ReadsBack : Json → Told → Tree → Type 0
  ReadsBack j told t = IsSound j × Gives Exact told t

  pub whole_back : (x : TreeOf Tree) (t : Tree) → roll-Tree x ≡ t → whole_fits x ≡ true → ReadsBack (whole_written x) (Ok (Whole (whole_written x))) t
  whole_back (Tree-F.Any j) t is fit = ((sound-decides j).0 fit, (Whole j, refl, λ h. sym (tree.rolls-Any j) ∙ is))
  whole_back _ t is fit = absurd (cc fit)

  pub nought_back : (x : TreeOf Tree) (t : Tree) → roll-Tree x ≡ t → nought_fits x ≡ true → ReadsBack Null (nought (out-Json Null)) t
  nought_back x t is fit = (tt, (Nought, ap nought json.outs-Null, λ h. sym (nought_is x t is fit)))

  pub truth_back : (x : TreeOf Tree) (t : Tree) → roll-Tree x ≡ t → truth_fits x ≡ true → ReadsBack (scalar_written x) (truth (out-Json (scalar_written x))) t
  truth_back (Tree-F.Bool b) t is fit = (tt, (Truth b, ap truth (json.outs-Bool b), λ h. sym (tree.rolls-Bool b) ∙ is))
  truth_back _ t is fit = absurd (cc fit)

  pub character_back : (x : TreeOf Tree) (t : Tree) → roll-Tree x ≡ t → character_fits x ≡ true → ReadsBack (scalar_written x) (character (out-Json (scalar_written x))) t
  character_back (Tree-F.Text text) t is fit = (
    tt,
    (
      Words text,
      ap character (json.outs-Text text) ∙ ap (λ (b : Bool). if_holds b BadLength (Ok (Words text))) fit,
      λ h. sym (tree.rolls-Text text) ∙ is,
    ),
  )
  character_back _ t is fit = absurd (cc fit)

  pub number_back : (kind : IntKind) (min max : Option ℤ) (x : TreeOf Tree) (t : Tree) → roll-Tree x ≡ t → number_fits kind min max x ≡ true → ReadsBack (scalar_written x) (number kind min max (out-Json (scalar_written x))) t
  number_back kind min max (Tree-F.Int n) t is fit = (
    whole_number kind min max n fit,
    (
      Number n,
      ap (number kind min max) (json.outs-Int n) ∙ ap (λ (b : Bool). if_holds b OutOfRange (Ok (Number n))) fit,
      λ h. sym (tree.rolls-Int n) ∙ is,
    ),
  )
  number_back kind min max _ t is fit = absurd (cc fit)

  pub words_back : (min max : Option ℕ) (x : TreeOf Tree) (t : Tree) → roll-Tree x ≡ t → words_fit min max x ≡ true → ReadsBack (scalar_written x) (words min max (out-Json (scalar_written x))) t
  words_back min max (Tree-F.Text text) t is fit = (
    tt,
    (
      Words text,
      ap (words min max) (json.outs-Text text) ∙ ap (λ (b : Bool). if_holds b BadLength (Ok (Words text))) fit,
      λ h. sym (tree.rolls-Text text) ∙ is,
    ),
  )
  words_back min max _ t is fit = absurd (cc fit)

  -- the name at a place is first there, since names are distinct
  pub name_back : (ns : List Named) → AreDistinct (map listed_name ns) → (is_nought : Tree → Bool) → ((s : Tree) → is_nought s ≡ true → s ≡ Nought) → (x : TreeOf Tree) (t : Tree) → roll-Tree x ≡ t → name_fits is_nought ns x ≡ true
      → ReadsBack (listed_written ns x) (one_of_names ns (out-Json (listed_written ns x))) t
  name_back ns distinct is_nought nought_only (Tree-F.Variant i s) t is fit =
      let (less, beside) = and_parts (nat_lt i (length ns)) (is_nought s) fit in
      let (n, there, written) = listed_at ns i (below_true i (length ns) (sym less)) in
      let same : Choice i Nought ≡ t = ap (Choice i) (sym (nought_only s beside)) ∙ sym (tree.rolls-Variant i s) ∙ is in
      let found : where_found (refused NotListed) bare (named_from listed_name 0 ns n.name) ≡ Ok (Choice i Nought) = ap (where_found (refused NotListed) bare) (named_first listed_name ns i n distinct there) in
      subst (λ (j : Json). ReadsBack j (one_of_names ns (out-Json j)) t) (sym written) (tt, (Choice i Nought, ap (one_of_names ns) (json.outs-Text n.name) ∙ found, λ h. same))
  name_back ns distinct is_nought nought_only _ t is fit = absurd (cc fit)
