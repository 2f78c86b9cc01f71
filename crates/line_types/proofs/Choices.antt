-- Choices of two descriptors that lead to no definition: the trees that fit them.
use Rattle.std.proofs.Common.{◌≡◌, ◌+◌, ℕ, zero, suc, true, Bool, List, [], ◌∷◌, Some, refl, sym, ◌∙◌, ap, subst, arith}
use Rattle.std.proofs.Common.{inl, inr}
use Rattle.descriptors.specs.declared.desc.Desc.{Desc}
use Rattle.descriptors.specs.declared.desc.Desc.TheOpen.{Desc-F}
use Rattle.descriptors.specs.declared.desc.Desc.TheVariants as descs
use Rattle.descriptors.specs.declared.table.Definition.{Definition}
use Rattle.descriptors.specs.declared.tree.Pair.{Pair}
use Rattle.descriptors.specs.declared.tree.Tree.{Tree, out-Tree}
use Rattle.descriptors.specs.declared.tree.Tree.TheFolds.{fold-Pair, fold_out-Tree, map-Tree}
use Rattle.descriptors.specs.declared.tree.Tree.TheOpen.{Tree-F}
use Rattle.descriptors.specs.declared.tree.Tree.TheVariants as trees
use Rattle.descriptors.specs.declared.tree.Tree.TheViews.{roll-Tree, roll-out-Tree}
use Rattle.schema_values.proofs.CallerLemmas.{contains_cases}
use Rattle.typed_values.specs.Denotes.{nodes, nodes_of_table, room}
use Rattle.typed_values.specs.Fits.{Fitting, alternative_at, choice_fits, fits_at, fits_by, fits_under, fits_within, if_there}
use Rattle.typed_values.specs.Levels.{DescLevel, PairOf, TreeOf, same_pair}
use Rattle.typed_values.specs.Parts.{StandsIn, in_alternative, the_whole}
use Rattle.typed_values.specs.Reached.{Mentions}
use Rattle.typed_values.proofs.CallerLemmas.{alternative_inside}
use Rattle.api_types.specs.Types.{FitsEach, FitsOne, ReachesExactly}
use Rattle.line_types.proofs.Inside.{in_child, inner_each, inner_one, mentions_none, reaches_none}

module _ (table : List Definition) (whole : Desc) (ds : List Desc) where
  abbrev steps : ℕ
  steps = room table whole

  -- one level of a tree, where each smaller tree stands as what it fits
  abbrev level : TreeOf Tree → TreeOf Fitting
  level = map-Tree Tree Pair Fitting (PairOf Fitting) (fits_within table steps)
      (fold-Pair Fitting (PairOf Fitting) (fits_at table steps) same_pair)

  level_fits : (x : TreeOf Tree) → choice_fits (λ f d. f steps d) ds (level x) ≡ choice_fits (fits_under table whole) ds x
  unfolding fits_under
  level_fits (Tree-F.Variant i s) = refl
  level_fits _ = refl

  -- the row of a choice
  choice_row : (t : Tree) → fits_under table whole t (descs.Untagged ds) ≡ choice_fits (fits_under table whole) ds (out-Tree t)
  unfolding fits_under fits_at room
  choice_row t =
      ap (λ (f : Fitting). f steps (descs.Untagged ds)) (fold_out-Tree Fitting (PairOf Fitting) (fits_at table steps) same_pair t)
      ∙ ap (λ (y : DescLevel). fits_by table (λ f d. f steps d) (fits_at table steps (level (out-Tree t)) (nodes_of_table table + nodes whole)) y (level (out-Tree t)))
      (descs.outs-Untagged ds)
      ∙ level_fits (out-Tree t)

choice_form : (fits : Tree → Desc → Bool) (ds : List Desc) (t : Tree) (x : TreeOf Tree) → roll-Tree x ≡ t
    → choice_fits fits ds x ≡ true → (i : ℕ) × (s : Tree) × (t ≡ trees.Variant i s)
choice_form fits ds t (Tree-F.Variant i s) is fit = (i, s, sym is ∙ trees.rolls-Variant i s)
choice_form fits ds t _ is fit = absurd (cc fit)

module _ (d e : Desc) where
  abbrev both : List Desc
  both = d ∷ e ∷ []

  abbrev either : Desc
  either = descs.Untagged both

  pub choice_reaches : ReachesExactly [] d → ReachesExactly [] e → ReachesExactly [] either
  choice_reaches first second = reaches_none either (λ name m.
      let (x, c, inside) = in_child either (Desc-F.Untagged both) (descs.outs-Untagged both) (λ n q. absurd (cc q)) name m in
      elim (contains_cases d (e ∷ []) x c) [
        | inl same ↦ mentions_none d first name (subst (λ (y : Desc). Mentions y name) (sym same) inside)
        | inr later ↦ elim (contains_cases e [] x later) [
          | inl same ↦ mentions_none e second name (subst (λ (y : Desc). Mentions y name) (sym same) inside)
          | inr none ↦ absurd (omega (arith, none.1))
        ]
      ])

  stands : (i : ℕ) (x : Desc) → alternative_at both i ≡ Some x → StandsIn either x
  stands i x there = in_alternative both x the_whole (descs.outs-Untagged both) (alternative_inside both i x there)

  place_each : (i : ℕ) (x : Desc) → alternative_at both i ≡ Some x → (t : Tree) → FitsEach [] x t
      → FitsEach [] either (trees.Variant i t)
  place_each i x there t each table is =
      choice_row table either both (trees.Variant i t)
      ∙ ap (choice_fits (fits_under table either) both) (trees.outs-Variant i t)
      ∙ ap (if_there (fits_under table either t)) there
      ∙ inner_each either x (stands i x there) t each table is

  pub first_each : (t : Tree) → FitsEach [] d t → FitsEach [] either (trees.Variant 0 t)
  first_each = place_each 0 d refl

  pub second_each : (t : Tree) → FitsEach [] e t → FitsEach [] either (trees.Variant 1 t)
  second_each = place_each 1 e refl

  pub choice_one : (t : Tree) → FitsOne [] either t → (i : ℕ) × (s : Tree) × (t ≡ trees.Variant i s)
  choice_one t (table, is, fit) =
      choice_form (fits_under table either) both t (out-Tree t) (roll-out-Tree t) (sym (choice_row table either both t) ∙ fit)

  place_row : (table : List Definition) (t : Tree) (i : ℕ) (s : Tree) → t ≡ trees.Variant i s
      → fits_under table either t either ≡ true → if_there (fits_under table either s) (alternative_at both i) ≡ true
  place_row table t i s e fit =
      sym (ap (choice_fits (fits_under table either) both) (ap out-Tree e ∙ trees.outs-Variant i s))
      ∙ sym (choice_row table either both t) ∙ fit

  pub first_at : (t : Tree) (i : ℕ) (s : Tree) → FitsOne [] either t → t ≡ trees.Variant i s → i ≡ 0 → FitsOne [] d s
  first_at t i s (table, is, fit) q here =
      inner_one either d (stands 0 d refl) s table is (place_row table t 0 s (q ∙ ap (λ (j : ℕ). trees.Variant j s) here) fit)

  -- a place that is not the first is the second
  pub second_at : (t : Tree) (i : ℕ) (s : Tree) → FitsOne [] either t → t ≡ trees.Variant i s → (i ≡ 0 → ⊥)
      → (i ≡ 1) × FitsOne [] e s
  second_at t zero s one is other = absurd (other refl)
  second_at t (suc zero) s (table, is, fit) q other =
      (refl, inner_one either e (stands 1 e refl) s table is (place_row table t 1 s q fit))
  second_at t (suc (suc i)) s (table, is, fit) q other = absurd (cc (place_row table t (suc (suc i)) s q fit))
