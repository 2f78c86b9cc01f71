-- On a guarded table references lead on with no steps.
use Rattle.std.proofs.Common.{◌≡◌, ℕ, suc, List, Option, Some, None, option_and_then, refl, sym, ◌∙◌, ap, MatchOption}
use Rattle.std.specs.Prelude.{⊤}
use Rattle.descriptors.specs.declared.desc.Desc.{Desc, out-Desc}
use Rattle.descriptors.specs.declared.desc.Desc.TheOpen.{Desc-F}
use Rattle.descriptors.specs.declared.desc.Desc.TheVariants as desc
use Rattle.descriptors.specs.declared.desc.Desc.TheViews.{roll-Desc, roll-out-Desc}
use Rattle.descriptors.specs.declared.table.Definition.{Definition}
use Rattle.descriptors.specs.Definitions.{definition}
use Rattle.typed_values.specs.Guarded.{IsGuarded}
use Rattle.typed_values.specs.Levels.{DescLevel}
use Rattle.typed_values.specs.Resting.{RestsBy}
use Rattle.flat_maps.specs.Flat.{resolved_by, resolved_at, resolved}
use Rattle.scalar_texts.proofs.CallerLemmas.{row}

module _ (table : List Definition) where
  same_row : (Next Other : Desc → Type 0) (f g : Desc → Option Desc) → ((d : Desc) → Next d → Other d → f d ≡ g d) → (d : Desc) (x : DescLevel) → RestsBy table Next x → RestsBy table Other x → resolved_by table f d x ≡ resolved_by table g d x
  same_row Next Other f g same d (Desc-F.Ref name) h k = by_definition (definition table name) h k
    where
      by_definition : (o : Option Desc) → MatchOption o ⊤ Next → MatchOption o ⊤ Other → option_and_then f o ≡ option_and_then g o
      by_definition None h k = refl
      by_definition (Some x) h k = same x h k
  same_row Next Other f g same d _ h k = refl

  next_row : (n : ℕ) (d : Desc) → resolved_at table (suc n) d ≡ resolved_by table (resolved_at table n) d (out-Desc d)
  unfolding resolved_at
  next_row n d = refl

  module _ (guarded : IsGuarded table) (d : Desc) where
    pub resolved_row : (x : DescLevel) → out-Desc d ≡ x → resolved table d ≡ resolved_by table (resolved table) d x
    unfolding resolved
    resolved_row x e = row table guarded (resolved_by table) (resolved_at table) next_row same_row d ∙ ap (resolved_by table (resolved table) d) e

    -- a reference leads on
    pub at_name : (name : List ℕ) (o : Option Desc) → d ≡ desc.Ref name → definition table name ≡ o → resolved table d ≡ option_and_then (resolved table) o
    at_name name o e f = resolved_row (Desc-F.Ref name) (ap out-Desc e ∙ desc.outs-Ref name) ∙ ap (option_and_then (resolved table)) f

    -- any other descriptor is there
    pub here : ((name : List ℕ) → d ≡ desc.Ref name → ⊥) → resolved table d ≡ Some d
    here none = by_level (out-Desc d) refl
      where
        by_level : (x : DescLevel) → out-Desc d ≡ x → resolved table d ≡ Some d
        by_level (Desc-F.Ref name) e = absurd (none name (sym (roll-out-Desc d) ∙ ap roll-Desc e ∙ desc.rolls-Ref name))
        by_level _ e = resolved_row _ e
