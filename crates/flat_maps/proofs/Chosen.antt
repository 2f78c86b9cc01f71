-- What stands at the place of a choice, and what passes there.
use Rattle.std.proofs.Common.{◌≡◌, ◌≤◌, ℕ, false, nat_lt, List, Option, Some, None, sym, ◌∙◌, ap, arith}
use Rattle.std.proofs.lemmas.Bool.Decides.{nat_tests}
use Rattle.std.specs.Prelude.{Contains, IfSome}
use Rattle.descriptors.specs.declared.desc.Desc.{Desc, Option as OptionOf, out-Desc}
use Rattle.descriptors.specs.declared.desc.Desc.TheOpen.{Desc-F}
use Rattle.descriptors.specs.declared.desc.Desc.TheVariants as desc
use Rattle.descriptors.specs.declared.desc.Field.{Field}
use Rattle.descriptors.specs.declared.desc.Presence.TheVariants.{Skipped}
use Rattle.descriptors.specs.declared.desc.Variant.{Variant}
use Rattle.descriptors.specs.declared.table.Definition.{Definition}
use Rattle.descriptors.specs.declared.tree.Tree.{Tree, Variant as Choice, out-Tree}
use Rattle.descriptors.specs.declared.tree.Tree.TheVariants as tree
use Rattle.typed_values.specs.Checks.{TablePasses, DescPasses}
use Rattle.typed_values.specs.Guarded.{IsGuarded}
use Rattle.typed_values.specs.Levels.{DescLevel}
use Rattle.typed_values.specs.Parts.{the_whole, in_payload, in_alternative, of_whole}
use Rattle.typed_values.proofs.CallerLemmas.{inner_passes}
use Rattle.flat_maps.specs.Flat.{resolved}
use Rattle.flat_maps.specs.Refusals.{chosen_payload}
use Rattle.flat_maps.specs.TextMaps.{optional_text, optional_behind, field_text}
use Rattle.flat_maps.proofs.FlatFits.{skipped_desc}
use Rattle.flat_maps.proofs.ResolveSteps.{here}

pub not_below : (n m : ℕ) → false ≡ nat_lt n m → m ≤ n
not_below n m e = grind (arith, nat_tests)

-- what stands at the place
pub chosen : (payload : ℕ → Option Desc) (t x : Tree) (i : ℕ) (o : Option Desc) → t ≡ Choice i x → payload i ≡ o → chosen_payload payload (out-Tree t) ≡ o
chosen payload t x i o e f = ap (chosen_payload payload) (ap out-Tree e ∙ tree.outs-Variant i x) ∙ f

pub if_some : {X : Type 0} {P Q : X → Type 0} (o : Option X) → ((x : X) → P x → Q x) → IfSome o P → IfSome o Q
if_some None more h = tt
if_some (Some x) more h = more x h

module _ (table : List Definition) (passes : TablePasses table) (d : Desc) (right : DescPasses table d) where
  pub payload_passes : (vs : List Variant) → d ≡ desc.External vs → (x : Desc) (v : Variant) → Contains vs v → v.payload ≡ Some x → DescPasses table x
  payload_passes vs e x v inside there = inner_passes table d x (of_whole (in_payload vs v x the_whole (ap out-Desc e ∙ desc.outs-External vs) inside there)) passes right

  pub alternative_passes : (ds : List Desc) → d ≡ desc.Untagged ds → (x : Desc) → Contains ds x → DescPasses table x
  alternative_passes ds e x inside = inner_passes table d x (of_whole (in_alternative ds x the_whole (ap out-Desc e ∙ desc.outs-Untagged ds) inside)) passes right

-- what may be left out has the tree of an option
pub skipped_text : (table : List Definition) → IsGuarded table → (f : Field) → f.presence ≡ Skipped → (t : Tree) → field_text table f t ≡ optional_text table (Desc-F.Option f.desc) (out-Tree t)
skipped_text table guarded f q t =
    let there : resolved table (OptionOf f.desc) ≡ Some (OptionOf f.desc) =
    here table guarded (OptionOf f.desc) (λ name is. let w : Desc-F.Option f.desc ≡ Desc-F.Ref name = sym (desc.outs-Option f.desc) ∙ ap out-Desc is ∙ desc.outs-Ref name in cc w) in
    ap (λ (d : Desc). optional_behind table (resolved table d) t) (skipped_desc f q)
    ∙ ap (λ (a : Option Desc). optional_behind table a t) there
    ∙ ap (λ (x : DescLevel). optional_text table x (out-Tree t)) (desc.outs-Option f.desc)
