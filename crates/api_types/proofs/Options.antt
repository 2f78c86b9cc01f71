-- An option over what passes its checks and does not take null.
use Rattle.std.proofs.Common.{◌≡◌, true, false, refl, sym, ◌∙◌, ap, subst, ◌⊎◌, inl, inr, List}
use Rattle.std.specs.List.{AllByRecursion}
use Rattle.schema_values.specs.Sound.{AreDistinct}
use Rattle.descriptors.specs.declared.desc.Desc.{Desc, out-Desc}
use Rattle.descriptors.specs.declared.desc.Desc.TheOpen.{Desc-F}
use Rattle.descriptors.specs.declared.desc.Desc.TheVariants as descs
use Rattle.descriptors.specs.declared.desc.Field.{Field}
use Rattle.descriptors.specs.declared.table.Definition.{Definition}
use Rattle.typed_values.specs.Checks.{lists_of_names, is_empty_choice, TakesNull, are_bounds_right, IsFieldOf, of_struct, of_variant, IsPlainlyRight, DescPasses}
use Rattle.typed_values.specs.Levels.{DescLevel}
use Rattle.typed_values.specs.Parts.{StandsIn, the_whole, in_option, in_list, in_map, in_field, in_payload, in_variant, in_alternative}

module _ (x : Desc) where
  abbrev option : Desc
  option = descs.Option x

  abbrev is : out-Desc option ≡ Desc-F.Option x
  is = descs.outs-Option x

  one_more : (p d : Desc) → (p ≡ option → StandsIn x d) → (StandsIn x p → StandsIn x d) → (p ≡ option) ⊎ StandsIn x p → (d ≡ option) ⊎ StandsIn x d
  one_more p d first further (inl q) = inr (first q)
  one_more p d first further (inr s) = inr (further s)

  -- the level of the option, where it is another's
  level_of : (p : Desc) (z : DescLevel) → out-Desc p ≡ z → p ≡ option → Desc-F.Option x ≡ z
  level_of p z e q = sym is ∙ ap out-Desc (sym q) ∙ e

  -- what stands in an option is itself, or stands in what it is over
  inside : (d : Desc) → StandsIn option d → (d ≡ option) ⊎ StandsIn x d
  inside d the_whole = inl refl
  inside d (in_option {d = p} y s e) =
      one_more p d (λ q. let l = level_of p (Desc-F.Option y) e q in let same : x ≡ y = cc l in subst (StandsIn x) same the_whole) (λ t. in_option y t e) (inside p s)
  inside d (in_list {d = p} y min max s e) =
      one_more p d (λ q. let l = level_of p (Desc-F.List y min max) e q in absurd (cc l)) (λ t. in_list y min max t e) (inside p s)
  inside d (in_map {d = p} y s e) =
      one_more p d (λ q. let l = level_of p (Desc-F.Map y) e q in absurd (cc l)) (λ t. in_map y t e) (inside p s)
  inside d (in_field {d = p} fs deny f s e c) =
      one_more p d (λ q. let l = level_of p (Desc-F.Struct fs deny) e q in absurd (cc l)) (λ t. in_field fs deny f t e c) (inside p s)
  inside d (in_payload {d = p} vs v y s e c h) =
      one_more p d (λ q. let l = level_of p (Desc-F.External vs) e q in absurd (cc l)) (λ t. in_payload vs v y t e c h) (inside p s)
  inside d (in_variant {d = p} tag vs v f s e c k) =
      one_more p d (λ q. let l = level_of p (Desc-F.Tagged tag vs) e q in absurd (cc l)) (λ t. in_variant tag vs v f t e c k) (inside p s)
  inside d (in_alternative {d = p} ds y s e c) =
      one_more p d (λ q. let l = level_of p (Desc-F.Untagged ds) e q in absurd (cc l)) (λ t. in_alternative ds y t e c) (inside p s)

  no_field : (f : Field) → IsFieldOf option f → ⊥
  no_field f (of_struct fs deny e c) = let q : Desc-F.Option x ≡ Desc-F.Struct fs deny = sym is ∙ e in cc q
  no_field f (of_variant tag vs v e c k) = let q : Desc-F.Option x ≡ Desc-F.Tagged tag vs = sym is ∙ e in cc q

  module _ (table : List Definition) (once : TakesNull table x → ⊥) where
    itself : IsPlainlyRight table option
    itself = record {
      names_distinct = λ h. h (subst (λ (z : DescLevel). AllByRecursion AreDistinct (lists_of_names z)) (sym is) tt);
      defined = λ h. let q : Desc-F.Option x ≡ Desc-F.Ref h.0 = sym is ∙ h.1 in cc q;
      some_alternative = λ h. let q : false ≡ true = sym (ap is_empty_choice is) ∙ h in cc q;
      null_once = λ h. let q : Desc-F.Option x ≡ Desc-F.Option h.0 = sym is ∙ h.1 in let same : h.0 ≡ x = cc q in once (subst (TakesNull table) same h.2);
      tags = λ h. let q : Desc-F.Option x ≡ Desc-F.Tagged h.0 h.1 = sym is ∙ h.4 in cc q;
      ranges = λ h. let q : true ≡ false = sym (ap are_bounds_right is) ∙ h in cc q;
      presences = λ h. no_field h.0 h.1;
    }

    pub option_passes : DescPasses table x → DescPasses table option
    option_passes right d s = elim (inside d s) [ inl q ↦ subst (IsPlainlyRight table) (sym q) itself | inr t ↦ right d t ]
