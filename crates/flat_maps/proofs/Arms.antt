-- What is told under a struct, and of a list of texts.
use Rattle.std.proofs.Common.{◌≡◌, ℕ, Bool, true, false, List, Option, Some, None, length, refl, sym, ◌∙◌, ap}
use Rattle.descriptors.specs.declared.desc.Desc.{Desc, out-Desc}
use Rattle.descriptors.specs.declared.desc.Desc.TheOpen.{Desc-F}
use Rattle.descriptors.specs.declared.desc.Desc.TheVariants as desc
use Rattle.descriptors.specs.declared.desc.Desc.TheViews.{roll-Desc, roll-out-Desc}
use Rattle.descriptors.specs.declared.desc.Field.{Field}
use Rattle.descriptors.specs.declared.table.Definition.{Definition}
use Rattle.descriptors.specs.declared.tree.Tree.{List as Items}
use Rattle.typed_values.specs.declared.fault.FaultKind.TheVariants.{WrongKind, BadLength}
use Rattle.typed_values.specs.Bounds.{is_length_within}
use Rattle.typed_values.specs.Denotes.{Told, refused, if_holds, items_told, all_told, as_tree}
use Rattle.typed_values.specs.Levels.{DescLevel}
use Rattle.flat_maps.specs.Flat.{told_item, texts_by, texts_told, fields_by, flat_fields}

module _ (d : Desc) where
  pub open_struct : (fs : List Field) (deny : Bool) → d ≡ desc.Struct fs deny → deny ≡ false → flat_fields (Some d) ≡ Some fs
  open_struct fs deny e f = ap fields_by (ap out-Desc e ∙ desc.outs-Struct fs deny ∙ ap (Desc-F.Struct fs) f)

  pub denied_struct : (fs : List Field) (deny : Bool) → d ≡ desc.Struct fs deny → deny ≡ true → flat_fields (Some d) ≡ None
  denied_struct fs deny e f = ap fields_by (ap out-Desc e ∙ desc.outs-Struct fs deny ∙ ap (Desc-F.Struct fs) f)

  pub no_struct : ((fs : List Field) (deny : Bool) → d ≡ desc.Struct fs deny → ⊥) → flat_fields (Some d) ≡ None
  no_struct none = by_level (out-Desc d) refl
    where
      by_level : (x : DescLevel) → out-Desc d ≡ x → fields_by x ≡ None
      by_level (Desc-F.Struct fs deny) e = absurd (none fs deny (sym (roll-out-Desc d) ∙ ap roll-Desc e ∙ desc.rolls-Struct fs deny))
      by_level _ e = refl

module _ (table : List Definition) (texts : List (List ℕ)) (d : Desc) where
  pub told_list : (x : Desc) (min max : Option ℕ) → d ≡ desc.List x min max → texts_told table texts (Some d) ≡ items_told (told_item table x) min max texts
  told_list x min max e = ap (texts_by table texts) (ap out-Desc e ∙ desc.outs-List x min max)

  pub no_list : ((x : Desc) (min max : Option ℕ) → d ≡ desc.List x min max → ⊥) → texts_told table texts (Some d) ≡ refused WrongKind
  no_list none = by_level (out-Desc d) refl
    where
      by_level : (x : DescLevel) → out-Desc d ≡ x → texts_by table texts x ≡ refused WrongKind
      by_level (Desc-F.List x min max) e = absurd (none x min max (sym (roll-out-Desc d) ∙ ap roll-Desc e ∙ desc.rolls-List x min max))
      by_level _ e = refl

pub items_within : {X : Type 0} (f : ℕ → X → Told) (min max : Option ℕ) (xs : List X) → is_length_within min max (length xs) ≡ true → items_told f min max xs ≡ as_tree Items (all_told f 0 xs)
items_within f min max xs e = ap (λ (b : Bool). if_holds b BadLength (as_tree Items (all_told f 0 xs))) e
