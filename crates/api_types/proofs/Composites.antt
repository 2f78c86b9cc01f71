-- The trees of options, lists and maps, by those of what they are made of.
use Rattle.std.proofs.Common.{◌≡◌, ◌↔◌, ℕ, true, List, [], ◌∷◌, map, None, refl, sym, ◌∙◌, ap, subst, ◌⊎◌, inl, inr}
use Rattle.std.specs.List.{AllByRecursion}
use Rattle.descriptors.specs.declared.desc.Desc.{Desc, out-Desc}
use Rattle.descriptors.specs.declared.desc.Desc.TheOpen.{Desc-F}
use Rattle.descriptors.specs.declared.desc.Desc.TheVariants as descs
use Rattle.descriptors.specs.declared.table.Definition.{Definition}
use Rattle.descriptors.specs.declared.tree.Pair.{Pair}
use Rattle.descriptors.specs.declared.tree.Tree.{Tree, out-Tree}
use Rattle.descriptors.specs.declared.tree.Tree.TheOpen.{Tree-F}
use Rattle.descriptors.specs.declared.tree.Tree.TheVariants as trees
use Rattle.descriptors.specs.declared.tree.Tree.TheViews.{roll-out-Tree}
use Rattle.typed_values.specs.Fits.{option_fits, items_fit, are_ascending, key_of, entries_fit, fits_under}
use Rattle.typed_values.specs.Parts.{StandsIn, the_whole, in_option, in_list, in_map, of_whole}
use Rattle.typed_values.specs.Reached.{Mentions}
use Rattle.typed_values.specs.Levels.{DescLevel}
use Rattle.typed_values.proofs.CallerLemmas.{fits_option, fits_list, fits_map, SomeChild, parts_at}
use Rattle.api_types.specs.Types.{IsTableOf, FitsEach, FitsOne, ReachesExactly}
use Rattle.api_types.proofs.Forms.{true_each, option_form, items_form, entries_form}
use Rattle.api_types.proofs.Inner.{part_each, part_one}
use Rattle.api_types.proofs.Reaching.{rests, reached_by}

-- a descriptor that is made of one other
module _ (ds : List Definition) (whole inner : Desc) (stands : StandsIn whole inner) where
  inner_each : (t : Tree) → FitsEach ds inner t → (table : List Definition) → IsTableOf ds whole table → fits_under table whole t inner ≡ true
  inner_each = part_each ds ds whole inner (λ e c. c) (λ table is. of_whole stands)

  inner_one : (t : Tree) (table : List Definition) → IsTableOf ds whole table → fits_under table whole t inner ≡ true → FitsOne ds inner t
  inner_one = part_one ds ds whole inner (λ e c. c) (λ table is. of_whole stands)

-- a descriptor reaches what the only one that it is made of does
inner_reaches : (ds : List Definition) (whole inner : Desc) (z : DescLevel) → out-Desc whole ≡ z → ((name : List ℕ) → z ≡ Desc-F.Ref name → ⊥)
    → ((name : List ℕ) → SomeChild (λ d. Mentions d name) z ↔ Mentions inner name) → ReachesExactly ds inner → ReachesExactly ds whole
inner_reaches ds whole inner z e other same reaches table held name =
    let at = λ (n : List ℕ). parts_at (λ d. out-Desc d ≡ Desc-F.Ref n) whole z e (λ q. other n (subst (λ (y : DescLevel). y ≡ Desc-F.Ref n) e q)) in (
      λ r. (reaches table held name).0 (reached_by (λ n m. (same n).0 ((at n).0 m)) name r),
      λ c. reached_by (λ n m. (at n).1 ((same n).1 m)) name ((reaches table held name).1 c),
    )

module _ (ds : List Definition) (d : Desc) where
  pub option_reaches : ReachesExactly ds d → ReachesExactly ds (descs.Option d)
  option_reaches = inner_reaches ds (descs.Option d) d (Desc-F.Option d) (descs.outs-Option d) (λ n e. absurd (cc e)) (λ n. (λ m. m, λ m. m))

  pub list_reaches : ReachesExactly ds d → ReachesExactly ds (descs.List d None None)
  list_reaches = inner_reaches ds (descs.List d None None) d (Desc-F.List d None None) (descs.outs-List d None None) (λ n e. absurd (cc e)) (λ n. (λ m. m, λ m. m))

  pub map_reaches : ReachesExactly ds d → ReachesExactly ds (descs.Map d)
  map_reaches = inner_reaches ds (descs.Map d) d (Desc-F.Map d) (descs.outs-Map d) (λ n e. absurd (cc e)) (λ n. (λ m. m, λ m. m))

  in_an_option : StandsIn (descs.Option d) d
  in_an_option = in_option d the_whole (descs.outs-Option d)

  in_a_list : StandsIn (descs.List d None None) d
  in_a_list = in_list d None None the_whole (descs.outs-List d None None)

  in_a_map : StandsIn (descs.Map d) d
  in_a_map = in_map d the_whole (descs.outs-Map d)

  pub none_each : FitsEach ds (descs.Option d) trees.None
  none_each table is =
      fits_option table (descs.Option d) trees.None (descs.Option d) (rests is) d refl
      ∙ ap (option_fits (λ s. fits_under table (descs.Option d) s d)) trees.outs-None

  pub some_each : (t : Tree) → FitsEach ds d t → FitsEach ds (descs.Option d) (trees.Some t)
  some_each t each table is =
      fits_option table (descs.Option d) (trees.Some t) (descs.Option d) (rests is) d refl
      ∙ ap (option_fits (λ s. fits_under table (descs.Option d) s d)) (trees.outs-Some t)
      ∙ inner_each ds (descs.Option d) d in_an_option t each table is

  option_one : (t : Tree) → FitsOne ds (descs.Option d) t → (t ≡ trees.None) ⊎ ((s : Tree) × (t ≡ trees.Some s) × FitsOne ds d s)
  option_one t (table, is, fit) =
      elim (option_form t (λ s. fits_under table (descs.Option d) s d) (out-Tree t) (roll-out-Tree t) (sym (fits_option table (descs.Option d) t (descs.Option d) (rests is) d refl) ∙ fit)) [
        | inl none ↦ inl none
        | inr (s, same, inside) ↦ inr (s, same, inner_one ds (descs.Option d) d in_an_option s table is inside)
      ]

  pub some_one : (t s : Tree) → FitsOne ds (descs.Option d) t → t ≡ trees.Some s → FitsOne ds d s
  some_one t s (table, is, fit) e =
      let w = descs.Option d in
      inner_one ds w d in_an_option s table is
      (sym (ap (option_fits (λ x. fits_under table w x d)) (ap out-Tree e ∙ trees.outs-Some s)) ∙ sym (fits_option table w t w (rests is) d refl) ∙ fit)

  pub none_one : (t : Tree) → FitsOne ds (descs.Option d) t → ((s : Tree) → t ≡ trees.Some s → ⊥) → trees.None ≡ t
  none_one t one other = elim (option_one t one) [ inl none ↦ sym none | inr (s, same, inside) ↦ absurd (other s same) ]

  all_inside : (ts : List Tree) → AllByRecursion (FitsEach ds d) ts → (table : List Definition) → IsTableOf ds (descs.List d None None) table
      → AllByRecursion (λ s. fits_under table (descs.List d None None) s d ≡ true) ts
  all_inside [] each table is = tt
  all_inside (t ∷ ts) each table is = (inner_each ds (descs.List d None None) d in_a_list t each.0 table is, all_inside ts each.1 table is)

  pub list_each : (ts : List Tree) → AllByRecursion (FitsEach ds d) ts → FitsEach ds (descs.List d None None) (trees.List ts)
  list_each ts each table is =
      let w = descs.List d None None in
      fits_list table w (trees.List ts) w (rests is) d None None refl
      ∙ ap (items_fit (λ s. fits_under table w s d) None None) (trees.outs-List ts)
      ∙ true_each (λ s. fits_under table w s d) ts (all_inside ts each table is)

  each_one : (ts : List Tree) (table : List Definition) → IsTableOf ds (descs.List d None None) table → AllByRecursion (λ s. fits_under table (descs.List d None None) s d ≡ true) ts → AllByRecursion (FitsOne ds d) ts
  each_one [] table is h = tt
  each_one (t ∷ ts) table is h = (inner_one ds (descs.List d None None) d in_a_list t table is h.0, each_one ts table is h.1)

  pub list_one : (t : Tree) → FitsOne ds (descs.List d None None) t → (ts : List Tree) × (t ≡ trees.List ts) × AllByRecursion (FitsOne ds d) ts
  list_one t (table, is, fit) =
      let w = descs.List d None None in
      let (ts, same, all) = items_form t (λ s. fits_under table w s d) None None (out-Tree t) (roll-out-Tree t) (sym (fits_list table w t w (rests is) d None None refl) ∙ fit) in
      (ts, same, each_one ts table is all)

  pub items_one : (t : Tree) (ts : List Tree) → FitsOne ds (descs.List d None None) t → t ≡ trees.List ts → AllByRecursion (FitsOne ds d) ts
  items_one t ts one e =
      let (others, same, all) = list_one t one in
      let levels : Tree-F.List others ≡ Tree-F.List ts = sym (ap out-Tree same ∙ trees.outs-List others) ∙ ap out-Tree e ∙ trees.outs-List ts in
      let q : others ≡ ts = cc levels in subst (AllByRecursion (FitsOne ds d)) q all

  values_inside : (ps : List Pair) → AllByRecursion (λ p. FitsEach ds d p.value) ps → (table : List Definition) → IsTableOf ds (descs.Map d) table → AllByRecursion (λ p. fits_under table (descs.Map d) p.value d ≡ true) ps
  values_inside [] each table is = tt
  values_inside (p ∷ ps) each table is = (inner_each ds (descs.Map d) d in_a_map p.value each.0 table is, values_inside ps each.1 table is)

  pub map_each : (ps : List Pair) → are_ascending (map key_of ps) ≡ true → AllByRecursion (λ p. FitsEach ds d p.value) ps → FitsEach ds (descs.Map d) (trees.Map ps)
  map_each ps ascends each table is =
      let w = descs.Map d in
      fits_map table w (trees.Map ps) w (rests is) d refl
      ∙ ap (entries_fit (λ s. fits_under table w s d)) (trees.outs-Map ps)
      ∙ rw ascends (true_each (λ p. fits_under table w p.value d) ps (values_inside ps each table is))

  values_one : (ps : List Pair) (table : List Definition) → IsTableOf ds (descs.Map d) table → AllByRecursion (λ p. fits_under table (descs.Map d) p.value d ≡ true) ps → AllByRecursion (λ p. FitsOne ds d p.value) ps
  values_one [] table is h = tt
  values_one (p ∷ ps) table is h = (inner_one ds (descs.Map d) d in_a_map p.value table is h.0, values_one ps table is h.1)

  pub map_one : (t : Tree) → FitsOne ds (descs.Map d) t → (ps : List Pair) × (t ≡ trees.Map ps) × (are_ascending (map key_of ps) ≡ true) × AllByRecursion (λ p. FitsOne ds d p.value) ps
  map_one t (table, is, fit) =
      let w = descs.Map d in
      let (ps, same, ascends, all) = entries_form t (λ s. fits_under table w s d) (out-Tree t) (roll-out-Tree t) (sym (fits_map table w t w (rests is) d refl) ∙ fit) in
      (ps, same, ascends, values_one ps table is all)

  pub entries_one : (t : Tree) (ps : List Pair) → FitsOne ds (descs.Map d) t → t ≡ trees.Map ps → (are_ascending (map key_of ps) ≡ true) × AllByRecursion (λ p. FitsOne ds d p.value) ps
  entries_one t ps one e =
      let (others, same, ascends, all) = map_one t one in
      let levels : Tree-F.Map others ≡ Tree-F.Map ps = sym (ap out-Tree same ∙ trees.outs-Map others) ∙ ap out-Tree e ∙ trees.outs-Map ps in
      let q : others ≡ ps = cc levels in subst (λ (qs : List Pair). (are_ascending (map key_of qs) ≡ true) × AllByRecursion (λ p. FitsOne ds d p.value) qs) q (ascends, all)
