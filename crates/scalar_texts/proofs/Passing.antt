-- Where the checks pass of a descriptor, they pass of what it leads to.
use Rattle.std.proofs.Common.{◌≡◌, ◌≤◌, ℕ, Bool, true, false, List, length, Option, Some, refl, ◌∙◌, ap, subst, arith}
use Rattle.std.proofs.lemmas.Bool.Decides.{nat_tests}
use Rattle.std.specs.Prelude.{nat_le, Contains}
use Rattle.descriptors.specs.declared.desc.Desc.{Desc, out-Desc}
use Rattle.descriptors.specs.declared.desc.Desc.TheVariants as desc
use Rattle.descriptors.specs.declared.desc.Field.{Field}
use Rattle.descriptors.specs.declared.desc.Named.{Named}
use Rattle.descriptors.specs.declared.table.Definition.{Definition}
use Rattle.descriptors.specs.Definitions.{definition}
use Rattle.descriptors.proofs.CallerLemmas.{entry_found}
use Rattle.typed_values.specs.Checks.{are_bounds_right, TablePasses, DescPasses}
use Rattle.typed_values.specs.Parts.{the_whole, in_option, in_list, in_field, of_whole}
use Rattle.typed_values.proofs.CallerLemmas.{inner_passes}

-- what a name is defined as passes
pub definition_passes : (table : List Definition) → TablePasses table → (name : List ℕ) (y : Desc) → definition table name ≡ Some y → DescPasses table y
definition_passes table passes name y f = let (e, i) = entry_found table name y f in subst (DescPasses table) i.is (passes.each e i.inside)

le_of : (n m : ℕ) → nat_le n m ≡ true → n ≤ m
le_of n m e = grind (arith, nat_tests)

true_of : (b : Bool) → (b ≡ false → ⊥) → b ≡ true
true_of true h = refl
true_of false h = absurd (h refl)

module _ (table : List Definition) (passes : TablePasses table) (d : Desc) (right : DescPasses table d) where
  pub option_passes : (x : Desc) → d ≡ desc.Option x → DescPasses table x
  option_passes x e = inner_passes table d x (of_whole (in_option x the_whole (ap out-Desc e ∙ desc.outs-Option x))) passes right

  pub list_passes : (x : Desc) (min max : Option ℕ) → d ≡ desc.List x min max → DescPasses table x
  list_passes x min max e = inner_passes table d x (of_whole (in_list x min max the_whole (ap out-Desc e ∙ desc.outs-List x min max))) passes right

  pub fields_pass : (fs : List Field) (deny : Bool) → d ≡ desc.Struct fs deny → (f : Field) → Contains fs f → DescPasses table f.desc
  fields_pass fs deny e f inside = inner_passes table d f.desc (of_whole (in_field fs deny f the_whole (ap out-Desc e ∙ desc.outs-Struct fs deny) inside)) passes right

  -- an enumeration has no more names than places
  pub few_names : (ns : List Named) → d ≡ desc.Enumeration ns → length ns ≤ 4294967296
  few_names ns e = le_of (length ns) 4294967296 (true_of _ (λ f. (right d the_whole).ranges (ap are_bounds_right (ap out-Desc e ∙ desc.outs-Enumeration ns) ∙ f)))
