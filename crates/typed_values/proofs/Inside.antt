-- What a part is made of are parts.
use Rattle.std.proofs.Common.{◌≡◌, ◌≤◌, ℕ, Bool, true, false, List, length, Option, Some, None, refl, ◌∙◌, ap, arith}
use Rattle.std.proofs.lemmas.Bool.Decides.{nat_tests}
use Rattle.std.specs.Prelude.{nat_le, IfSome}
use Rattle.descriptors.specs.declared.desc.Desc.{Desc, out-Desc}
use Rattle.descriptors.specs.declared.desc.Desc.TheVariants as desc
use Rattle.descriptors.specs.declared.desc.Field.{Field}
use Rattle.descriptors.specs.declared.desc.Named.{Named}
use Rattle.descriptors.specs.declared.desc.TaggedVariant.{TaggedVariant}
use Rattle.descriptors.specs.declared.desc.Variant.{Variant}
use Rattle.descriptors.specs.declared.table.Definition.{Definition}
use Rattle.typed_values.specs.Checks.{are_bounds_right, TablePasses, DescPasses}
use Rattle.typed_values.specs.Parts.{StandsIn, in_option, in_list, in_map, in_field, in_payload, in_variant, in_alternative, IsPart, of_whole, of_table}
use Rattle.typed_values.specs.Ranged.{AreRangesRight}
use Rattle.typed_values.specs.Rows.{AreParts, AreFieldsOf, ArePayloadsOf, AreVariantsOf}

pub part_of : {table : List Definition} {whole d x : Desc} → ((w : Desc) → StandsIn w d → StandsIn w x) → IsPart table whole d → IsPart table whole x
part_of go (of_whole s) = of_whole (go _ s)
part_of go (of_table e inside s) = of_table e inside (go _ s)

true_of : (b : Bool) → (b ≡ false → ⊥) → b ≡ true
true_of true h = refl
true_of false h = absurd (h refl)

le_of : (n m : ℕ) → nat_le n m ≡ true → n ≤ m
le_of n m e = grind (arith, nat_tests)

if_some : (P : Desc → Type 0) (o : Option Desc) → ((x : Desc) → o ≡ Some x → P x) → IfSome o P
if_some P None h = tt
if_some P (Some x) h = h x refl

module _ {table : List Definition} {whole d : Desc} (part : IsPart table whole d) where
  pub part_of_option : (x : Desc) → d ≡ desc.Option x → IsPart table whole x
  part_of_option x e = part_of (λ w s. in_option x s (ap out-Desc e ∙ desc.outs-Option x)) part

  pub part_of_list : (x : Desc) (min max : Option ℕ) → d ≡ desc.List x min max → IsPart table whole x
  part_of_list x min max e = part_of (λ w s. in_list x min max s (ap out-Desc e ∙ desc.outs-List x min max)) part

  pub part_of_map : (x : Desc) → d ≡ desc.Map x → IsPart table whole x
  part_of_map x e = part_of (λ w s. in_map x s (ap out-Desc e ∙ desc.outs-Map x)) part

  pub parts_of_untagged : (ds : List Desc) → d ≡ desc.Untagged ds → AreParts table whole ds
  parts_of_untagged ds e x inside = part_of (λ w s. in_alternative ds x s (ap out-Desc e ∙ desc.outs-Untagged ds) inside) part

  pub fields_of_struct : (fs : List Field) (deny : Bool) → d ≡ desc.Struct fs deny → AreFieldsOf table whole fs
  fields_of_struct fs deny e f inside = part_of (λ w s. in_field fs deny f s (ap out-Desc e ∙ desc.outs-Struct fs deny) inside) part

  pub payloads_of_external : (vs : List Variant) → d ≡ desc.External vs → ArePayloadsOf table whole vs
  payloads_of_external vs e v inside =
      if_some (IsPart table whole) v.payload (λ x p. part_of (λ w s. in_payload vs v x s (ap out-Desc e ∙ desc.outs-External vs) inside p) part)

  pub variants_of_tagged : (tag : List ℕ) (vs : List TaggedVariant) → d ≡ desc.Tagged tag vs → AreVariantsOf table whole vs
  variants_of_tagged tag vs e v inside f among = part_of (λ w s. in_variant tag vs v f s (ap out-Desc e ∙ desc.outs-Tagged tag vs) inside among) part

  few_by : AreRangesRight table whole → (n : ℕ) → are_bounds_right (out-Desc d) ≡ nat_le n 4294967296 → n ≤ 4294967296
  few_by right n e = le_of n 4294967296 (true_of (nat_le n 4294967296) (λ f. right d part (e ∙ f)))

  pub few_names : AreRangesRight table whole → (ns : List Named) → d ≡ desc.Enumeration ns → length ns ≤ 4294967296
  few_names right ns e = few_by right (length ns) (ap are_bounds_right (ap out-Desc e ∙ desc.outs-Enumeration ns))

  pub few_variants : AreRangesRight table whole → (vs : List Variant) → d ≡ desc.External vs → length vs ≤ 4294967296
  few_variants right vs e = few_by right (length vs) (ap are_bounds_right (ap out-Desc e ∙ desc.outs-External vs))

  pub few_tagged : AreRangesRight table whole → (tag : List ℕ) (vs : List TaggedVariant) → d ≡ desc.Tagged tag vs → length vs ≤ 4294967296
  few_tagged right tag vs e = few_by right (length vs) (ap are_bounds_right (ap out-Desc e ∙ desc.outs-Tagged tag vs))

  pub few_alternatives : AreRangesRight table whole → (ds : List Desc) → d ≡ desc.Untagged ds → length ds ≤ 4294967296
  few_alternatives right ds e = few_by right (length ds) (ap are_bounds_right (ap out-Desc e ∙ desc.outs-Untagged ds))

-- where the checks pass, no range is bad
pub ranges_right : (table : List Definition) (whole : Desc) → TablePasses table → DescPasses table whole → AreRangesRight table whole
ranges_right table whole passes right d (of_whole s) = (right d s).ranges
ranges_right table whole passes right d (of_table e inside s) = (passes.each e inside d s).ranges
