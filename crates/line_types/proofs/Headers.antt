-- Header lines: lists of two texts.
use Rattle.std.proofs.Common.{◌≡◌, ◌&&◌, ◌≤◌, ℕ, Bool, true, List, [], ◌∷◌, Some, None, length, refl, sym, ◌∙◌, ap, arith}
use Rattle.std.proofs.lemmas.Bool.{and_parts}
use Rattle.std.proofs.lemmas.Bool.Decides.{nat_tests}
use Rattle.std.specs.Prelude.{nat_le}
use Rattle.descriptors.specs.declared.desc.Desc.TheOpen.{Desc-F}
use Rattle.descriptors.specs.declared.desc.Desc.TheVariants as descs
use Rattle.descriptors.specs.declared.table.Definition.{Definition}
use Rattle.descriptors.specs.declared.tree.Tree.{Tree, out-Tree}
use Rattle.descriptors.specs.declared.tree.Tree.TheOpen.{Tree-F}
use Rattle.descriptors.specs.declared.tree.Tree.TheVariants as trees
use Rattle.descriptors.specs.declared.tree.Tree.TheViews.{roll-Tree, roll-out-Tree}
use Rattle.typed_values.specs.Bounds.{is_length_within}
use Rattle.typed_values.specs.Fits.{each_fits, fits_under, items_fit}
use Rattle.typed_values.specs.Levels.{TreeOf}
use Rattle.typed_values.specs.Parts.{StandsIn, in_list, of_whole, the_whole}
use Rattle.typed_values.proofs.CallerLemmas.{fits_list, guarded_rests}
use Rattle.api_types.specs.Types.{FitsEach, FitsOne, IsTableOf, ReachesExactly}
use Rattle.api_types.proofs.CallerLemmas.{words_reach}
use Rattle.request_lines.specs.RequestLines.{any_text, line_desc}
use Rattle.line_types.proofs.Inside.{in_child, inner_each, inner_one, mentions_none, reaches_none}

text_stands : StandsIn line_desc any_text
text_stands = in_list any_text (Some 2) (Some 2) the_whole (descs.outs-List any_text (Some 2) (Some 2))

pub line_reaches : ReachesExactly [] line_desc
line_reaches = reaches_none line_desc (λ name m.
    mentions_none any_text (words_reach None None None) name
    (in_child line_desc (Desc-F.List any_text (Some 2) (Some 2)) (descs.outs-List any_text (Some 2) (Some 2))
    (λ n q. absurd (cc q)) name m))

line_row : (table : List Definition) → IsTableOf [] line_desc table → (t : Tree) → fits_under table line_desc t line_desc
    ≡ items_fit (λ s. fits_under table line_desc s any_text) (Some 2) (Some 2) (out-Tree t)
line_row table is t =
    fits_list table line_desc t line_desc (guarded_rests table line_desc is.table_passes.guarded line_desc (of_whole the_whole))
    any_text (Some 2) (Some 2) refl

pub line_each : (a b : Tree) → FitsEach [] any_text a → FitsEach [] any_text b
    → FitsEach [] line_desc (trees.List (a ∷ b ∷ []))
line_each a b first second table is =
    line_row table is (trees.List (a ∷ b ∷ []))
    ∙ ap (items_fit (λ s. fits_under table line_desc s any_text) (Some 2) (Some 2)) (trees.outs-List (a ∷ b ∷ []))
    ∙ rw (inner_each line_desc any_text text_stands a first table is, inner_each line_desc any_text text_stands b second table is) refl

at_most_two : (n : ℕ) → nat_le n 2 ≡ true → n ≤ 2
at_most_two n e = grind (arith, nat_tests)

-- two trees, each of which fits
abbrev AreTwo : (Tree → Bool) → Tree → Type 0
AreTwo fits t = (a b : Tree) × (t ≡ trees.List (a ∷ b ∷ [])) × (fits a ≡ true) × (fits b ≡ true)

two_form : (fits : Tree → Bool) (t : Tree) (x : TreeOf Tree) → roll-Tree x ≡ t
    → items_fit fits (Some 2) (Some 2) x ≡ true → AreTwo fits t
two_form fits t (Tree-F.List []) is fit = absurd (cc fit)
two_form fits t (Tree-F.List (a ∷ [])) is fit = absurd (cc fit)
two_form fits t (Tree-F.List (a ∷ b ∷ [])) is fit =
    let (first, rest) = and_parts (fits a) (fits b && true) fit in
    (a, b, sym is ∙ trees.rolls-List (a ∷ b ∷ []), first, (and_parts (fits b) true rest).0)
two_form fits t (Tree-F.List (a ∷ b ∷ c ∷ ts)) is fit =
    let n = length (a ∷ b ∷ c ∷ ts) in
    let within = (and_parts (is_length_within (Some 2) (Some 2) n) (each_fits fits (a ∷ b ∷ c ∷ ts)) fit).0 in
    absurd (omega (arith, at_most_two n (and_parts (nat_le 2 n) (nat_le n 2) within).1))
two_form fits t _ is fit = absurd (cc fit)

-- a header line is of two texts
pub line_one : (t : Tree) → FitsOne [] line_desc t
    → (a b : Tree) × (t ≡ trees.List (a ∷ b ∷ [])) × FitsOne [] any_text a × FitsOne [] any_text b
line_one t (table, is, fit) =
    let (a, b, same, first, second) =
    two_form (λ s. fits_under table line_desc s any_text) t (out-Tree t) (roll-out-Tree t) (sym (line_row table is t) ∙ fit) in
    (a, b, same, inner_one line_desc any_text text_stands a table is first, inner_one line_desc any_text text_stands b table is second)

-- the items of a header line
pub line_at : (t : Tree) (ts : List Tree) → FitsOne [] line_desc t → t ≡ trees.List ts
    → (a b : Tree) × (ts ≡ a ∷ b ∷ []) × FitsOne [] any_text a × FitsOne [] any_text b
line_at t ts one e =
    let (a, b, same, first, second) = line_one t one in
    let levels : Tree-F.List ts ≡ Tree-F.List (a ∷ b ∷ []) = sym (ap out-Tree e ∙ trees.outs-List ts) ∙ ap out-Tree same ∙ trees.outs-List (a ∷ b ∷ []) in
    (a, b, cc levels, first, second)
