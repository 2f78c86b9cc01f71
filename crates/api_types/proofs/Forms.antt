-- The form of a tree that fits, row by row.
use Rattle.std.proofs.Common.{◌≡◌, ℕ, ℤ, Bool, true, false, ◌&&◌, ◌==◌, List, [], ◌∷◌, length, map, Option, refl, sym, ◌∙◌, ◌⊎◌, inl, inr}
use Rattle.std.specs.List.{AllByRecursion}
use Rattle.schema_values.specs.declared.json_value.Json.{Json}
use Rattle.schema_values.specs.SoundTest.{is_sound}
use Rattle.descriptors.specs.declared.desc.IntKind.{IntKind}
use Rattle.descriptors.specs.declared.tree.Pair.{Pair}
use Rattle.descriptors.specs.declared.tree.Tree.{Tree}
use Rattle.descriptors.specs.declared.tree.Tree.TheOpen.{Tree-F}
use Rattle.descriptors.specs.declared.tree.Tree.TheVariants as trees
use Rattle.descriptors.specs.declared.tree.Tree.TheViews.{roll-Tree}
use Rattle.typed_values.specs.Bounds.{is_number_of, is_length_within}
use Rattle.typed_values.specs.Fits.{whole_fits, truth_fits, number_fits, words_fit, character_fits, option_fits, each_fits, items_fit, are_ascending, key_of, entries_fit}
use Rattle.typed_values.specs.Levels.{TreeOf}

pub both : (a b : Bool) → (a && b) ≡ true → (a ≡ true) × (b ≡ true)
both true b e = (refl, e)
both false b e = absurd (cc e)

each_true : {X : Type 0} (fits : X → Bool) (xs : List X) → each_fits fits xs ≡ true → AllByRecursion (λ x. fits x ≡ true) xs
each_true fits [] e = tt
each_true fits (x ∷ xs) e = let (first, rest) = both (fits x) (each_fits fits xs) e in (first, each_true fits xs rest)

pub true_each : {X : Type 0} (fits : X → Bool) (xs : List X) → AllByRecursion (λ x. fits x ≡ true) xs → each_fits fits xs ≡ true
true_each fits [] h = refl
true_each fits (x ∷ xs) h = rw h.0 (true_each fits xs h.1)

module _ (t : Tree) where
  pub truth_form : (x : TreeOf Tree) → roll-Tree x ≡ t → truth_fits x ≡ true → (b : Bool) × (t ≡ trees.Bool b)
  truth_form (Tree-F.Bool b) is fit = (b, sym is ∙ trees.rolls-Bool b)
  truth_form _ is fit = absurd (cc fit)

  pub number_form : (kind : IntKind) (min max : Option ℤ) (x : TreeOf Tree) → roll-Tree x ≡ t → number_fits kind min max x ≡ true → (n : ℤ) × (t ≡ trees.Int n) × (is_number_of kind min max n ≡ true)
  number_form kind min max (Tree-F.Int n) is fit = (n, sym is ∙ trees.rolls-Int n, fit)
  number_form kind min max _ is fit = absurd (cc fit)

  pub words_form : (min max : Option ℕ) (x : TreeOf Tree) → roll-Tree x ≡ t → words_fit min max x ≡ true → (w : List ℕ) × (t ≡ trees.Text w)
  words_form min max (Tree-F.Text w) is fit = (w, sym is ∙ trees.rolls-Text w)
  words_form min max _ is fit = absurd (cc fit)

  pub character_form : (x : TreeOf Tree) → roll-Tree x ≡ t → character_fits x ≡ true → (w : List ℕ) × (t ≡ trees.Text w) × ((length w == 1) ≡ true)
  character_form (Tree-F.Text w) is fit = (w, sym is ∙ trees.rolls-Text w, fit)
  character_form _ is fit = absurd (cc fit)

  pub whole_form : (x : TreeOf Tree) → roll-Tree x ≡ t → whole_fits x ≡ true → (j : Json) × (t ≡ trees.Any j) × (is_sound j ≡ true)
  whole_form (Tree-F.Any j) is fit = (j, sym is ∙ trees.rolls-Any j, fit)
  whole_form _ is fit = absurd (cc fit)

  pub option_form : (fits : Tree → Bool) (x : TreeOf Tree) → roll-Tree x ≡ t → option_fits fits x ≡ true → (t ≡ trees.None) ⊎ ((s : Tree) × (t ≡ trees.Some s) × (fits s ≡ true))
  option_form fits Tree-F.None is fit = inl (sym is ∙ trees.rolls-None)
  option_form fits (Tree-F.Some s) is fit = inr (s, sym is ∙ trees.rolls-Some s, fit)
  option_form fits _ is fit = absurd (cc fit)

  pub items_form : (fits : Tree → Bool) (min max : Option ℕ) (x : TreeOf Tree) → roll-Tree x ≡ t → items_fit fits min max x ≡ true → (ts : List Tree) × (t ≡ trees.List ts) × AllByRecursion (λ s. fits s ≡ true) ts
  items_form fits min max (Tree-F.List ts) is fit = (ts, sym is ∙ trees.rolls-List ts, each_true fits ts (both (is_length_within min max (length ts)) (each_fits fits ts) fit).1)
  items_form fits min max _ is fit = absurd (cc fit)

  pub entries_form : (fits : Tree → Bool) (x : TreeOf Tree) → roll-Tree x ≡ t → entries_fit fits x ≡ true → (ps : List Pair) × (t ≡ trees.Map ps) × (are_ascending (map key_of ps) ≡ true) × AllByRecursion (λ p. fits p.value ≡ true) ps
  entries_form fits (Tree-F.Map ps) is fit =
      let (ascends, all) = both (are_ascending (map key_of ps)) (each_fits (λ p. fits p.value) ps) fit in
      (ps, sym is ∙ trees.rolls-Map ps, ascends, each_true (λ p. fits p.value) ps all)
  entries_form fits _ is fit = absurd (cc fit)
