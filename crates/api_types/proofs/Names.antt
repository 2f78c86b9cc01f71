-- The trees of enumerations.
use Rattle.std.proofs.Common.{◌≡◌, ℕ, ◌<◌, true, List, [], length, refl, sym, ◌∙◌, ap, nat_lt}
use Rattle.descriptors.specs.declared.desc.Desc.{Desc, Null as NullDesc}
use Rattle.descriptors.specs.declared.desc.Desc.TheOpen.{Desc-F}
use Rattle.descriptors.specs.declared.desc.Desc.TheVariants as descs
use Rattle.descriptors.specs.declared.desc.Named.{Named}
use Rattle.descriptors.specs.declared.tree.Tree.{Tree, out-Tree}
use Rattle.descriptors.specs.declared.tree.Tree.TheOpen.{Tree-F}
use Rattle.descriptors.specs.declared.tree.Tree.TheVariants as trees
use Rattle.descriptors.specs.declared.tree.Tree.TheViews.{roll-Tree, roll-out-Tree}
use Rattle.typed_values.specs.Fits.{nought_fits, name_fits, fits_under}
use Rattle.typed_values.specs.Levels.{TreeOf}
use Rattle.typed_values.proofs.CallerLemmas.{fits_enumeration, place_row, below_true, nought_row}
use Rattle.api_types.specs.Types.{FitsEach, FitsOne, ReachesExactly}
use Rattle.api_types.proofs.Forms.{both}
use Rattle.api_types.proofs.Reaching.{rests, reaches_none}

nought_form : (t : Tree) (x : TreeOf Tree) → roll-Tree x ≡ t → nought_fits x ≡ true → t ≡ trees.Unit
nought_form t Tree-F.Unit is fit = sym is ∙ trees.rolls-Unit
nought_form t _ is fit = absurd (cc fit)

module _ (ns : List Named) where
  abbrev names_desc : Desc
  names_desc = descs.Enumeration ns

  pub names_reach : ReachesExactly [] names_desc
  names_reach = reaches_none names_desc (Desc-F.Enumeration ns) (descs.outs-Enumeration ns) (λ Q h. h) (λ name e. absurd (cc e))

  pub name_each : (i : ℕ) → i < length ns → FitsEach [] names_desc (trees.Variant i trees.Unit)
  name_each i less table is =
      let nought = λ (s : Tree). fits_under table names_desc s NullDesc in
      fits_enumeration table names_desc (trees.Variant i trees.Unit) names_desc (rests is) ns refl
      ∙ place_row nought ns (trees.Variant i trees.Unit) i trees.Unit refl less
      ∙ nought_row table names_desc trees.Unit
      ∙ ap (λ x. nought_fits x) trees.outs-Unit

  place_form : (nought : Tree → _) (t : Tree) (x : TreeOf Tree) → roll-Tree x ≡ t → name_fits nought ns x ≡ true → (i : ℕ) × (s : Tree) × (t ≡ trees.Variant i s)
  place_form nought t (Tree-F.Variant i s) is fit = (i, s, sym is ∙ trees.rolls-Variant i s)
  place_form nought t _ is fit = absurd (cc fit)

  pub name_one : (t : Tree) → FitsOne [] names_desc t → (i : ℕ) × (s : Tree) × (t ≡ trees.Variant i s)
  name_one t (table, is, fit) =
      place_form (λ s. fits_under table names_desc s NullDesc) t (out-Tree t) (roll-out-Tree t) (sym (fits_enumeration table names_desc t names_desc (rests is) ns refl) ∙ fit)

  pub name_at : (t : Tree) (i : ℕ) (s : Tree) → FitsOne [] names_desc t → t ≡ trees.Variant i s → (i < length ns) × (t ≡ trees.Variant i trees.Unit)
  name_at t i s (table, is, fit) e =
      let nought = λ (s : Tree). fits_under table names_desc s NullDesc in
      let right = sym (ap (name_fits nought ns) (ap out-Tree e ∙ trees.outs-Variant i s)) ∙ sym (fits_enumeration table names_desc t names_desc (rests is) ns refl) ∙ fit in
      let (less, unit) = both (nat_lt i (length ns)) (nought s) right in (
        below_true i (length ns) (sym less),
        e ∙ ap (trees.Variant i) (nought_form s (out-Tree s) (roll-out-Tree s) (sym (nought_row table names_desc s) ∙ unit)),
      )
