-- The trees of descriptors that are made of no other.
use Rattle.std.proofs.Common.{◌≡◌, ℕ, ℤ, Bool, true, ◌&&◌, ◌==◌, List, [], length, Option, None, refl, sym, ◌∙◌, ap, false, int_le, ◌≤ℤ◌, T, subst, arith}
use Rattle.std.proofs.lemmas.Bool.Decides.{nat_tests}
use Rattle.std.specs.Int.Signed.{le_z_yes}
use Rattle.schema_values.specs.declared.json_value.Json.{Json}
use Rattle.schema_values.specs.Sound.{IsSound}
use Rattle.schema_values.specs.SoundTest.{is_sound}
use Rattle.schema_values.proofs.CallerLemmas.{sound-decides}
use Rattle.descriptors.specs.declared.desc.Desc.{Desc}
use Rattle.descriptors.specs.declared.desc.Desc.TheVariants as descs
use Rattle.descriptors.specs.declared.desc.Desc.TheOpen.{Desc-F}
use Rattle.descriptors.specs.declared.desc.IntKind.{IntKind}
use Rattle.descriptors.specs.declared.tree.Tree.{Tree, out-Tree}
use Rattle.descriptors.specs.declared.tree.Tree.TheVariants as trees
use Rattle.descriptors.specs.declared.tree.Tree.TheViews.{roll-out-Tree}
use Rattle.typed_values.specs.Bounds.{least_of, greatest_of, is_number_of, is_length_within}
use Rattle.typed_values.specs.Fits.{whole_fits, truth_fits, number_fits, words_fit, character_fits}
use Rattle.typed_values.proofs.CallerLemmas.{fits_any, fits_bool, fits_char, fits_int, fits_text}
use Rattle.api_types.specs.Types.{FitsEach, FitsOne, ReachesExactly}
use Rattle.api_types.proofs.Forms.{both, truth_form, number_form, words_form, character_form, whole_form}
use Rattle.api_types.proofs.Reaching.{rests, reaches_none}

pub truth_reaches : ReachesExactly [] descs.Bool
truth_reaches = reaches_none descs.Bool Desc-F.Bool descs.outs-Bool (λ Q h. h) (λ name e. absurd (cc e))

pub number_reaches : (kind : IntKind) → ReachesExactly [] (descs.Int kind None None)
number_reaches kind = reaches_none (descs.Int kind None None) (Desc-F.Int kind None None) (descs.outs-Int kind None None) (λ Q h. h) (λ name e. absurd (cc e))

pub words_reach : (min max : Option ℕ) (format : Option (List ℕ)) → ReachesExactly [] (descs.Text min max format)
words_reach min max format = reaches_none (descs.Text min max format) (Desc-F.Text min max format) (descs.outs-Text min max format) (λ Q h. h) (λ name e. absurd (cc e))

pub character_reaches : ReachesExactly [] descs.Char
character_reaches = reaches_none descs.Char Desc-F.Char descs.outs-Char (λ Q h. h) (λ name e. absurd (cc e))

pub whole_reaches : ReachesExactly [] descs.Any
whole_reaches = reaches_none descs.Any Desc-F.Any descs.outs-Any (λ Q h. h) (λ name e. absurd (cc e))

pub truth_each : (b : Bool) → FitsEach [] descs.Bool (trees.Bool b)
truth_each b table is = fits_bool table descs.Bool (trees.Bool b) descs.Bool (rests is) refl ∙ ap truth_fits (trees.outs-Bool b)

pub truth_one : (t : Tree) → FitsOne [] descs.Bool t → (b : Bool) × (t ≡ trees.Bool b)
truth_one t (table, is, fit) = truth_form t (out-Tree t) (roll-out-Tree t) (sym (fits_bool table descs.Bool t descs.Bool (rests is) refl) ∙ fit)

pub number_each : (kind : IntKind) (n : ℤ) → is_number_of kind None None n ≡ true → FitsEach [] (descs.Int kind None None) (trees.Int n)
number_each kind n right table is =
    let d = descs.Int kind None None in
    fits_int table d (trees.Int n) d (rests is) kind None None refl ∙ ap (number_fits kind None None) (trees.outs-Int n) ∙ right

pub number_one : (kind : IntKind) (t : Tree) → FitsOne [] (descs.Int kind None None) t → (n : ℤ) × (t ≡ trees.Int n) × (is_number_of kind None None n ≡ true)
number_one kind t (table, is, fit) =
    let d = descs.Int kind None None in
    number_form t kind None None (out-Tree t) (roll-out-Tree t) (sym (fits_int table d t d (rests is) kind None None refl) ∙ fit)

pub number_at : (kind : IntKind) (t : Tree) (n : ℤ) → FitsOne [] (descs.Int kind None None) t → t ≡ trees.Int n → is_number_of kind None None n ≡ true
number_at kind t n (table, is, fit) e =
    let d = descs.Int kind None None in
    sym (ap (λ x. number_fits kind None None x) (ap out-Tree e ∙ trees.outs-Int n)) ∙ sym (fits_int table d t d (rests is) kind None None refl) ∙ fit

module _ (min max : Option ℕ) (format : Option (List ℕ)) where
  abbrev words_desc : Desc
  words_desc = descs.Text min max format

  pub words_each : (w : List ℕ) → is_length_within min max (length w) ≡ true → FitsEach [] words_desc (trees.Text w)
  words_each w within table is =
      fits_text table words_desc (trees.Text w) words_desc (rests is) min max format refl ∙ ap (λ x. words_fit min max x) (trees.outs-Text w) ∙ within

  pub words_one : (t : Tree) → FitsOne [] words_desc t → (w : List ℕ) × (t ≡ trees.Text w)
  words_one t (table, is, fit) = words_form t min max (out-Tree t) (roll-out-Tree t) (sym (fits_text table words_desc t words_desc (rests is) min max format refl) ∙ fit)

  pub words_at : (t : Tree) (w : List ℕ) → FitsOne [] words_desc t → t ≡ trees.Text w → is_length_within min max (length w) ≡ true
  words_at t w (table, is, fit) e =
      sym (ap (λ x. words_fit min max x) (ap out-Tree e ∙ trees.outs-Text w)) ∙ sym (fits_text table words_desc t words_desc (rests is) min max format refl) ∙ fit

pub character_each : (w : List ℕ) → (length w == 1) ≡ true → FitsEach [] descs.Char (trees.Text w)
character_each w one table is = fits_char table descs.Char (trees.Text w) descs.Char (rests is) refl ∙ ap (λ x. character_fits x) (trees.outs-Text w) ∙ one

pub character_one : (t : Tree) → FitsOne [] descs.Char t → (w : List ℕ) × (t ≡ trees.Text w) × ((length w == 1) ≡ true)
character_one t (table, is, fit) = character_form t (out-Tree t) (roll-out-Tree t) (sym (fits_char table descs.Char t descs.Char (rests is) refl) ∙ fit)

pub character_at : (t : Tree) (w : List ℕ) → FitsOne [] descs.Char t → t ≡ trees.Text w → length w ≡ 1
character_at t w (table, is, fit) e =
    let one : (length w == 1) ≡ true = sym (ap (λ x. character_fits x) (ap out-Tree e ∙ trees.outs-Text w)) ∙ sym (fits_char table descs.Char t descs.Char (rests is) refl) ∙ fit in
    grind (arith, nat_tests)

pub whole_each : (j : Json) → is_sound j ≡ true → FitsEach [] descs.Any (trees.Any j)
whole_each j sound table is = fits_any table descs.Any (trees.Any j) descs.Any (rests is) refl ∙ ap (λ x. whole_fits x) (trees.outs-Any j) ∙ sound

pub whole_one : (t : Tree) → FitsOne [] descs.Any t → (j : Json) × (t ≡ trees.Any j) × (is_sound j ≡ true)
whole_one t (table, is, fit) = whole_form t (out-Tree t) (roll-out-Tree t) (sym (fits_any table descs.Any t descs.Any (rests is) refl) ∙ fit)

pub whole_at : (t : Tree) (j : Json) → FitsOne [] descs.Any t → t ≡ trees.Any j → IsSound j
whole_at t j (table, is, fit) e =
    let sound : is_sound j ≡ true = sym (ap (λ x. whole_fits x) (ap out-Tree e ∙ trees.outs-Any j)) ∙ sym (fits_any table descs.Any t descs.Any (rests is) refl) ∙ fit in
    (sound-decides j).0 sound

true_of : (b : Bool) → T b → b ≡ true
true_of true h = refl
true_of false h = absurd h

in_order : (a b : ℤ) → int_le a b ≡ true → a ≤ℤ b
in_order a b e = le_z_yes (subst T (sym e) tt)

-- a number between the least and the greatest of its kind
pub kind_holds : (kind : IntKind) (n : ℤ) → least_of kind ≤ℤ n → n ≤ℤ greatest_of kind → is_number_of kind None None n ≡ true
kind_holds kind n least greatest = rw (true_of (int_le (least_of kind) n) least.le, true_of (int_le n (greatest_of kind)) greatest.le) refl

pub kind_bounds : (kind : IntKind) (n : ℤ) → is_number_of kind None None n ≡ true → (least_of kind ≤ℤ n) × (n ≤ℤ greatest_of kind)
kind_bounds kind n right =
    let ends = both (int_le (least_of kind) n) (int_le n (greatest_of kind)) (both (int_le (least_of kind) n && int_le n (greatest_of kind)) true right).0 in
    (in_order (least_of kind) n ends.0, in_order n (greatest_of kind) ends.1)
