-- What a descriptor names, and whether it holds what takes null, by its level.
use Rattle.std.proofs.Common.{◌≡◌, ◌↔◌, ◌⊎◌, inl, inr, ℕ, List, sym, ◌∙◌, ap, subst}
use Rattle.std.specs.Prelude.{Contains}
use Rattle.descriptors.specs.declared.desc.Desc.TheVariants as desc
use Rattle.descriptors.specs.declared.desc.Desc.{Desc, out-Desc}
use Rattle.descriptors.specs.declared.desc.Desc.TheOpen.{Desc-F}
use Rattle.typed_values.specs.Guarded.{Names, named_here, named_in_option, named_in_alternative}
use Rattle.typed_values.specs.Search.{HoldsNull, any_held, null_held, held_here, held_in_alternative}

module _ (name : List ℕ) {d : Desc} where
  from_option : (x : Desc) → out-Desc d ≡ Desc-F.Option x → Names name d → Names name x
  from_option x q (named_here e) = let w : Desc-F.Option x ≡ Desc-F.Ref name = sym q ∙ e in absurd (cc w)
  from_option x q (named_in_option y e n) = let w : Desc-F.Option x ≡ Desc-F.Option y = sym q ∙ e in let u : y ≡ x = cc w in subst (Names name) u n
  from_option x q (named_in_alternative ds y e c n) = let w : Desc-F.Option x ≡ Desc-F.Untagged ds = sym q ∙ e in absurd (cc w)

  from_untagged : (ds : List Desc) → out-Desc d ≡ Desc-F.Untagged ds → Names name d → (x : Desc) × Contains ds x × Names name x
  from_untagged ds q (named_here e) = let w : Desc-F.Untagged ds ≡ Desc-F.Ref name = sym q ∙ e in absurd (cc w)
  from_untagged ds q (named_in_option y e n) = let w : Desc-F.Untagged ds ≡ Desc-F.Option y = sym q ∙ e in absurd (cc w)
  from_untagged ds q (named_in_alternative es y e c n) = let w : Desc-F.Untagged ds ≡ Desc-F.Untagged es = sym q ∙ e in let u : es ≡ ds = cc w in (y, subst (λ (z : List Desc). Contains z y) u c, n)

  from_ref : (other : List ℕ) → out-Desc d ≡ Desc-F.Ref other → Names name d → other ≡ name
  from_ref other q (named_here e) = let w : Desc-F.Ref other ≡ Desc-F.Ref name = sym q ∙ e in cc w
  from_ref other q (named_in_option y e n) = let w : Desc-F.Ref other ≡ Desc-F.Option y = sym q ∙ e in absurd (cc w)
  from_ref other q (named_in_alternative ds y e c n) = let w : Desc-F.Ref other ≡ Desc-F.Untagged ds = sym q ∙ e in absurd (cc w)

module _ {d : Desc} where
  held_from_untagged : (ds : List Desc) → out-Desc d ≡ Desc-F.Untagged ds → HoldsNull d → (x : Desc) × Contains ds x × HoldsNull x
  held_from_untagged ds q (any_held e) = let w : Desc-F.Untagged ds ≡ Desc-F.Any = sym q ∙ e in absurd (cc w)
  held_from_untagged ds q (null_held e) = let w : Desc-F.Untagged ds ≡ Desc-F.Null = sym q ∙ e in absurd (cc w)
  held_from_untagged ds q (held_here y e) = let w : Desc-F.Untagged ds ≡ Desc-F.Option y = sym q ∙ e in absurd (cc w)
  held_from_untagged ds q (held_in_alternative es y e c n) = let w : Desc-F.Untagged ds ≡ Desc-F.Untagged es = sym q ∙ e in let u : es ≡ ds = cc w in (y, subst (λ (z : List Desc). Contains z y) u c, n)

module _ (name : List ℕ) (d : Desc) where
  pub Names-option : (x : Desc) → d ≡ desc.Option x → Names name d ↔ Names name x
  Names-option x e = let q = ap out-Desc e ∙ desc.outs-Option x in (from_option name x q, named_in_option x q)

  pub Names-untagged : (ds : List Desc) → d ≡ desc.Untagged ds → Names name d ↔ ((x : Desc) × Contains ds x × Names name x)
  Names-untagged ds e = let q = ap out-Desc e ∙ desc.outs-Untagged ds in (from_untagged name ds q, λ h. named_in_alternative ds h.0 q h.1 h.2)

  pub Names-ref : (other : List ℕ) → d ≡ desc.Ref other → Names name d ↔ (other ≡ name)
  Names-ref other e = let q = ap out-Desc e ∙ desc.outs-Ref other in (from_ref name other q, λ s. named_here (q ∙ ap (λ (n : List ℕ). Desc-F.Ref n) s))

module _ (d : Desc) where
  pub HoldsNull-at_once : (d ≡ desc.Any) ⊎ ((d ≡ desc.Null) ⊎ ((x : Desc) × (d ≡ desc.Option x))) → HoldsNull d
  HoldsNull-at_once (inl e) = any_held (ap out-Desc e ∙ desc.outs-Any)
  HoldsNull-at_once (inr (inl e)) = null_held (ap out-Desc e ∙ desc.outs-Null)
  HoldsNull-at_once (inr (inr (x, e))) = held_here x (ap out-Desc e ∙ desc.outs-Option x)

  pub HoldsNull-untagged : (ds : List Desc) → d ≡ desc.Untagged ds → HoldsNull d ↔ ((x : Desc) × Contains ds x × HoldsNull x)
  HoldsNull-untagged ds e = let q = ap out-Desc e ∙ desc.outs-Untagged ds in (held_from_untagged ds q, λ h. held_in_alternative ds h.0 q h.1 h.2)
