-- Which descriptors say by a truth value what other members are: any value, and no value.
use Rattle.std.proofs.Common.{◌≡◌, Bool, true, false, List, map, Some, None, cond, refl, sym, ◌∙◌, ap, ◌⊎◌, inl, inr}
use Rattle.std.specs.List.{list_any}
use Rattle.descriptors.specs.declared.desc.Desc.{Desc, out-Desc}
use Rattle.descriptors.specs.declared.desc.Desc.TheOpen.{Desc-F}
use Rattle.descriptors.specs.declared.table.Definition.{Definition}
use Rattle.descriptors.specs.Definitions.{listed_name}
use Rattle.typed_values.specs.SchemaTable.{Drawn, drawn, drawn_step, is_described}
use Rattle.typed_values.specs.Levels.{DescLevel}
use Rattle.written_schemas.proofs.Enumerations.{enumerated_is}
use Rattle.written_schemas.proofs.Forms.{drawn_level, drawn_row}

no_truth : (b : Bool) (x y : Drawn) → x.truth ≡ None → y.truth ≡ None → (cond b x y).truth ≡ None
no_truth true x y e f = e
no_truth false x y e f = f

module _ (table : List Definition) (d : Desc) (b : Bool) (told : (drawn table d).truth ≡ Some b) where
  abbrev IsTruth : Type 0
  IsTruth = ((out-Desc d ≡ Desc-F.Any) × (b ≡ true)) ⊎ ((out-Desc d ≡ Desc-F.Never) × (b ≡ false))

  not_told : (z : DescLevel) → out-Desc d ≡ z → (drawn_step table (drawn_level table z)).truth ≡ None → IsTruth
  not_told z e none = absurd (let never : Some b ≡ None = sym told ∙ ap (λ (s : Drawn). s.truth) (drawn_row table d z e) ∙ none in cc never)

  is_told : (z : DescLevel) → out-Desc d ≡ z → (c : Bool) → (drawn_step table (drawn_level table z)).truth ≡ Some c → b ≡ c
  is_told z e c f = let same : Some b ≡ Some c = sym told ∙ ap (λ (s : Drawn). s.truth) (drawn_row table d z e) ∙ f in cc same

  by_form : (z : DescLevel) → out-Desc d ≡ z → IsTruth
  by_form Desc-F.Any e = inl (e, is_told Desc-F.Any e true refl)
  by_form Desc-F.Never e = inr (e, is_told Desc-F.Never e false refl)
  by_form Desc-F.Null e = not_told _ e refl
  by_form Desc-F.Bool e = not_told _ e refl
  by_form Desc-F.Char e = not_told _ e refl
  by_form (Desc-F.Int kind min max) e = not_told _ e refl
  by_form (Desc-F.Text min max format) e = not_told _ e refl
  by_form (Desc-F.Enumeration ns) e = not_told _ e (no_truth (list_any is_described ns) _ _ refl (ap (λ (s : Drawn). s.truth) (enumerated_is (map listed_name ns))))
  by_form (Desc-F.Option x) e = not_told _ e refl
  by_form (Desc-F.List x min max) e = not_told _ e refl
  by_form (Desc-F.Map x) e = not_told _ e refl
  by_form (Desc-F.Struct fs deny) e = not_told _ e refl
  by_form (Desc-F.External vs) e = not_told _ e refl
  by_form (Desc-F.Tagged tag vs) e = not_told _ e refl
  by_form (Desc-F.Untagged ds) e = not_told _ e refl
  by_form (Desc-F.Ref name) e = not_told _ e refl

  pub truth_is : IsTruth
  truth_is = by_form (out-Desc d) refl
