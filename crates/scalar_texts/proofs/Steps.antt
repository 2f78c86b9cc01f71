-- On a guarded table the steps that options and references take are never spent.
use Rattle.std.proofs.Common.{◌≡◌, ℕ, zero, suc, ◌<◌, List, Option, Some, None, refl, sym, ◌∙◌, ap, arith, MatchOption}
use Rattle.std.specs.Prelude.{⊤}
use Rattle.descriptors.specs.declared.desc.Desc.{Desc, out-Desc}
use Rattle.descriptors.specs.declared.desc.Desc.TheOpen.{Desc-F}
use Rattle.descriptors.specs.declared.table.Definition.{Definition}
use Rattle.descriptors.specs.Definitions.{definition}
use Rattle.typed_values.specs.Denotes.{room}
use Rattle.typed_values.specs.Guarded.{IsGuarded}
use Rattle.typed_values.specs.Levels.{DescLevel}
use Rattle.typed_values.specs.Parts.{the_whole, of_whole}
use Rattle.typed_values.specs.Resting.{RestsBy, Rests}
use Rattle.typed_values.proofs.CallerLemmas.{guarded_rests}

-- `by` says what a descriptor gives, where it is known what those give that it leads to at one value, and `at` counts the steps
module _ (table : List Definition) (guarded : IsGuarded table) {A : Type 0} (by : (Desc → A) → Desc → DescLevel → A) (at : ℕ → Desc → A)
    (next : (n : ℕ) (d : Desc) → at (suc n) d ≡ by (at n) d (out-Desc d))
    (same : (Next Other : Desc → Type 0) (f g : Desc → A) → ((d : Desc) → Next d → Other d → f d ≡ g d) → (d : Desc) (x : DescLevel) → RestsBy table Next x → RestsBy table Other x → by f d x ≡ by g d x) where
  rests : (d : Desc) → Rests table (room table d) d
  rests d = guarded_rests table d guarded d (of_whole the_whole)

  -- any two numbers of steps that are enough give the same
  rested : (n m : ℕ) (d : Desc) → Rests table n d → Rests table m d → at n d ≡ at m d
  unfolding Rests
  rested zero m d h k = absurd h
  rested (suc n) zero d h k = absurd k
  rested (suc n) (suc m) d h k = next n d ∙ same (Rests table n) (Rests table m) (at n) (at m) (λ x r s. rested n m x r s) d (out-Desc d) h k ∙ sym (next m d)

  row_within : (n : ℕ) (d : Desc) → Rests table n d → at n d ≡ by (λ x. at (room table x) x) d (out-Desc d)
  unfolding Rests
  row_within zero d h = absurd h
  row_within (suc n) d h = next n d ∙ same (Rests table n) (Rests table n) (at n) (λ x. at (room table x) x) (λ x r s. rested n (room table x) x r (rests x)) d (out-Desc d) h h

  -- what a descriptor gives, with no steps
  pub row : (d : Desc) → at (room table d) d ≡ by (λ x. at (room table x) x) d (out-Desc d)
  row d = row_within (room table d) d (rests d)

-- how many options and references lead on
abbrev pub after_one : (Desc → ℕ) → Option Desc → ℕ
after_one next None = 0
after_one next (Some d) = suc (next d)

abbrev pub steps_by : List Definition → (Desc → ℕ) → Desc → DescLevel → ℕ
steps_by table next d (Desc-F.Option x) = suc (next x)
steps_by table next d (Desc-F.Ref name) = after_one next (definition table name)
steps_by table next d _ = 0

unfoldable pub steps_at : List Definition → ℕ → Desc → ℕ
steps_at table zero d = 0
steps_at table (suc n) d = steps_by table (steps_at table n) d (out-Desc d)

unfoldable pub steps : List Definition → Desc → ℕ
steps table d = steps_at table (room table d) d

module _ (table : List Definition) where
  steps_same : (Next Other : Desc → Type 0) (f g : Desc → ℕ) → ((d : Desc) → Next d → Other d → f d ≡ g d) → (d : Desc) (x : DescLevel) → RestsBy table Next x → RestsBy table Other x → steps_by table f d x ≡ steps_by table g d x
  steps_same Next Other f g same d (Desc-F.Option x) h k = ap suc (same x h k)
  steps_same Next Other f g same d (Desc-F.Ref name) h k = by_definition (definition table name) h k
    where
      by_definition : (o : Option Desc) → MatchOption o ⊤ Next → MatchOption o ⊤ Other → after_one f o ≡ after_one g o
      by_definition None h k = refl
      by_definition (Some x) h k = ap suc (same x h k)
  steps_same Next Other f g same d _ h k = refl

  steps_next : (n : ℕ) (d : Desc) → steps_at table (suc n) d ≡ steps_by table (steps_at table n) d (out-Desc d)
  unfolding steps_at
  steps_next n d = refl

  steps_row : IsGuarded table → (d : Desc) → steps table d ≡ steps_by table (steps table) d (out-Desc d)
  unfolding steps
  steps_row guarded d = row table guarded (steps_by table) (steps_at table) steps_next steps_same d

  -- each option leaves fewer
  pub fewer_inside : IsGuarded table → (d x : Desc) → out-Desc d ≡ Desc-F.Option x → steps table x < steps table d
  fewer_inside guarded d x e = let less = steps_row guarded d ∙ ap (steps_by table (steps table) d) e in omega (arith, less)

  -- each reference leaves fewer
  pub fewer_behind : IsGuarded table → (d : Desc) (name : List ℕ) (y : Desc) → out-Desc d ≡ Desc-F.Ref name → definition table name ≡ Some y → steps table y < steps table d
  fewer_behind guarded d name y e f = let less = steps_row guarded d ∙ ap (steps_by table (steps table) d) e ∙ ap (after_one (steps table)) f in omega (arith, less)
