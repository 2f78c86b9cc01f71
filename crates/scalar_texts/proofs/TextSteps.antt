-- On a guarded table each row of what a text denotes holds with no steps in it.
use Rattle.std.proofs.Common.{◌≡◌, ℕ, ℤ, suc, List, Option, Some, None, refl, sym, ◌∙◌, ap, MatchOption}
use Rattle.std.specs.Prelude.{⊤}
use Rattle.descriptors.specs.declared.desc.Desc.{Desc, out-Desc}
use Rattle.descriptors.specs.declared.desc.Desc.TheOpen.{Desc-F}
use Rattle.descriptors.specs.declared.desc.Desc.TheVariants as desc
use Rattle.descriptors.specs.declared.desc.Desc.TheViews.{roll-Desc, roll-out-Desc}
use Rattle.descriptors.specs.declared.desc.IntKind.{IntKind}
use Rattle.descriptors.specs.declared.desc.Named.{Named}
use Rattle.descriptors.specs.declared.table.Definition.{Definition}
use Rattle.descriptors.specs.Definitions.{definition}
use Rattle.typed_values.specs.declared.fault.FaultKind.TheVariants.{WrongKind}
use Rattle.typed_values.specs.Denotes.{Told, just, at_definition, refused}
use Rattle.typed_values.specs.Guarded.{IsGuarded}
use Rattle.typed_values.specs.Levels.{DescLevel}
use Rattle.typed_values.specs.Resting.{RestsBy}
use Rattle.scalar_texts.specs.Texts.{text_by, text_at, text_told}
use Rattle.scalar_texts.proofs.Steps.{row}

module _ (table : List Definition) (text : List ℕ) where
  abbrev by : (Desc → Told) → Desc → DescLevel → Told
  by next d x = text_by table text next x

  -- what follows a step matters only where that step is one
  same_row : (Next Other : Desc → Type 0) (f g : Desc → Told) → ((d : Desc) → Next d → Other d → f d ≡ g d) → (d : Desc) (x : DescLevel) → RestsBy table Next x → RestsBy table Other x → by f d x ≡ by g d x
  same_row Next Other f g same d (Desc-F.Option x) h k = ap just (same x h k)
  same_row Next Other f g same d (Desc-F.Ref name) h k = by_definition (definition table name) h k
    where
      by_definition : (o : Option Desc) → MatchOption o ⊤ Next → MatchOption o ⊤ Other → at_definition f o ≡ at_definition g o
      by_definition None h k = refl
      by_definition (Some x) h k = same x h k
  same_row Next Other f g same d _ h k = refl

  next_row : (n : ℕ) (d : Desc) → text_at table text (suc n) d ≡ by (text_at table text n) d (out-Desc d)
  unfolding text_at
  next_row n d = refl

  -- the row of a descriptor
  pub text_row : IsGuarded table → (d : Desc) (x : DescLevel) → out-Desc d ≡ x → text_told table text d ≡ text_by table text (text_told table text) x
  unfolding text_told
  text_row guarded d x e = row table guarded by (text_at table text) next_row same_row d ∙ ap (text_by table text (text_told table text)) e

  -- a descriptor that is none of these has no text
  pub no_text : IsGuarded table → (d : Desc) → (d ≡ desc.Bool → ⊥) → (d ≡ desc.Char → ⊥) → ((kind : IntKind) (min max : Option ℤ) → d ≡ desc.Int kind min max → ⊥)
      → ((min max : Option ℕ) (format : Option (List ℕ)) → d ≡ desc.Text min max format → ⊥) → ((ns : List Named) → d ≡ desc.Enumeration ns → ⊥) → ((x : Desc) → d ≡ desc.Option x → ⊥) → ((name : List ℕ) → d ≡ desc.Ref name → ⊥)
      → text_told table text d ≡ refused WrongKind
  no_text guarded d no_bool no_char no_int no_words no_name no_option no_ref = by_level (out-Desc d) refl
    where
      back : (x : DescLevel) → out-Desc d ≡ x → d ≡ roll-Desc x
      back x e = sym (roll-out-Desc d) ∙ ap roll-Desc e

      by_level : (x : DescLevel) → out-Desc d ≡ x → text_told table text d ≡ refused WrongKind
      by_level Desc-F.Bool e = absurd (no_bool (back _ e ∙ desc.rolls-Bool))
      by_level Desc-F.Char e = absurd (no_char (back _ e ∙ desc.rolls-Char))
      by_level (Desc-F.Int kind min max) e = absurd (no_int kind min max (back _ e ∙ desc.rolls-Int kind min max))
      by_level (Desc-F.Text min max format) e = absurd (no_words min max format (back _ e ∙ desc.rolls-Text min max format))
      by_level (Desc-F.Enumeration ns) e = absurd (no_name ns (back _ e ∙ desc.rolls-Enumeration ns))
      by_level (Desc-F.Option x) e = absurd (no_option x (back _ e ∙ desc.rolls-Option x))
      by_level (Desc-F.Ref name) e = absurd (no_ref name (back _ e ∙ desc.rolls-Ref name))
      by_level _ e = text_row guarded d _ e
