-- A tree that a text denotes under a scalar descriptor is of its form, within its bounds.
use Rattle.std.proofs.Common.{◌≡◌, ℕ, ℤ, ◌<◌, ◌==◌, Bool, true, false, List, length, Option, Some, None, bytes_eq, cond, codes, refl, sym, ◌∙◌, ap, arith}
use Rattle.std.specs.declared.result.Result.TheVariants.{Ok, Err}
use Rattle.descriptors.specs.declared.desc.IntKind.{IntKind}
use Rattle.descriptors.specs.declared.desc.Named.{Named}
use Rattle.descriptors.specs.declared.tree.Tree.{Tree, Unit as Nought, Bool as Truth, Int as Number, Text as Words, Some as Just, Variant as Choice, out-Tree}
use Rattle.descriptors.specs.declared.tree.Tree.TheOpen.{Tree-F}
use Rattle.descriptors.specs.declared.tree.Tree.TheVariants as tree
use Rattle.descriptors.specs.Definitions.{listed_name}
use Rattle.typed_values.specs.declared.fault.FaultKind.{FaultKind}
use Rattle.typed_values.specs.declared.fault.FaultKind.TheVariants.{BadText, BadLength, NotListed}
use Rattle.typed_values.specs.Bounds.{is_number_of, is_length_within}
use Rattle.typed_values.specs.Denotes.{Told, refused, if_holds, just, where_found, bare, named_from}
use Rattle.typed_values.specs.Fits.{truth_fits, number_fits, words_fit, character_fits, name_fits, option_fits}
use Rattle.typed_values.specs.Levels.{TreeOf}
use Rattle.typed_values.proofs.CallerLemmas.{place_row}
use Rattle.scalar_texts.specs.Texts.{truth_of_text, kind_name, number_in, number_or_fault, number_of_text, words_of_text, character_of_text, name_of_text}
use Rattle.scalar_texts.proofs.Listed.{place_below}

-- each tree that is told passes
abbrev pub Gives : Told → (Tree → Bool) → Type 0
Gives told passes = (t : Tree) → told ≡ Ok t → passes t ≡ true

pub shown : (passes : TreeOf Tree → Bool) (t s : Tree) (x : TreeOf Tree) → s ≡ t → out-Tree s ≡ x → passes x ≡ true → passes (out-Tree t) ≡ true
shown passes t s x e o h = ap passes (ap out-Tree (sym e) ∙ o) ∙ h

held : (b : Bool) (kind : FaultKind) (passes : TreeOf Tree → Bool) (s : Tree) (x : TreeOf Tree) → out-Tree s ≡ x → (b ≡ true → passes x ≡ true) → Gives (if_holds b kind (Ok s)) (λ t. passes (out-Tree t))
held true kind passes s x o h t e = shown passes t s x (cc e) o (h refl)
held false kind passes s x o h t e = absurd (cc e)

pub truth_gives : (text : List ℕ) → Gives (truth_of_text text) (λ t. truth_fits (out-Tree t))
truth_gives text = by_tests (bytes_eq (codes "true") text) (bytes_eq (codes "false") text)
  where
    by_tests : (a b : Bool) → Gives (cond a (Ok (Truth true)) (cond b (Ok (Truth false)) (refused (BadText text (codes "bool"))))) (λ t. truth_fits (out-Tree t))
    by_tests true b t e = shown truth_fits t (Truth true) (Tree-F.Bool true) (cc e) (tree.outs-Bool true) refl
    by_tests false true t e = shown truth_fits t (Truth false) (Tree-F.Bool false) (cc e) (tree.outs-Bool false) refl
    by_tests false false t e = absurd (cc e)

pub number_gives : (kind : IntKind) (min max : Option ℤ) (text : List ℕ) → Gives (number_of_text kind min max text) (λ t. number_fits kind min max (out-Tree t))
number_gives kind min max text = by_number (number_in kind text)
  where
    by_number : (o : Option ℤ) → Gives (number_or_fault kind min max text o) (λ t. number_fits kind min max (out-Tree t))
    by_number None t e = absurd (cc e)
    by_number (Some n) t e = held (is_number_of kind min max n) (BadText text (kind_name kind)) (number_fits kind min max) (Number n) (Tree-F.Int n) (tree.outs-Int n) (λ h. h) t e

pub words_give : (min max : Option ℕ) (text : List ℕ) → Gives (words_of_text min max text) (λ t. words_fit min max (out-Tree t))
words_give min max text = held (is_length_within min max (length text)) BadLength (words_fit min max) (Words text) (Tree-F.Text text) (tree.outs-Text text) (λ h. h)

pub character_gives : (text : List ℕ) → Gives (character_of_text text) (λ t. character_fits (out-Tree t))
character_gives text = held (length text == 1) (BadText text (codes "char")) character_fits (Words text) (Tree-F.Text text) (tree.outs-Text text) (λ h. h)

pub name_gives : (is_nought : Tree → Bool) (ns : List Named) (text : List ℕ) → is_nought Nought ≡ true → Gives (name_of_text ns text) (λ t. name_fits is_nought ns (out-Tree t))
name_gives is_nought ns text passes = by_found (named_from listed_name 0 ns text) (λ found e. let less = place_below listed_name 0 ns text found e in omega (arith, less))
  where
    by_found : (o : Option (ℕ × Named)) → ((found : ℕ × Named) → o ≡ Some found → found.0 < length ns) → Gives (where_found (refused NotListed) bare o) (λ t. name_fits is_nought ns (out-Tree t))
    by_found None below t e = absurd (cc e)
    by_found (Some found) below t e = let same : t ≡ Choice found.0 Nought = cc e in place_row is_nought ns t found.0 Nought same (below found refl) ∙ passes

pub just_gives : (passes : Tree → Bool) (o : Told) → Gives o passes → Gives (just o) (λ t. option_fits passes (out-Tree t))
just_gives passes (Ok s) gives t e = shown (option_fits passes) t (Just s) (Tree-F.Some s) (cc e) (tree.outs-Some s) (gives s refl)
just_gives passes (Err k) gives t e = absurd (cc e)
