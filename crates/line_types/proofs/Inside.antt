-- Descriptors that lead to no definition, and what stands in them.
use Rattle.std.proofs.Common.{◌≡◌, ℕ, true, List, [], sym, ◌∙◌, arith}
use Rattle.descriptors.specs.declared.desc.Desc.{Desc, out-Desc}
use Rattle.descriptors.specs.declared.desc.Desc.TheOpen.{Desc-F}
use Rattle.descriptors.specs.declared.table.Definition.{Definition}
use Rattle.descriptors.specs.declared.tree.Tree.{Tree}
use Rattle.typed_values.specs.Fits.{fits_under}
use Rattle.typed_values.specs.Levels.{DescLevel}
use Rattle.typed_values.specs.Parts.{StandsIn, of_whole}
use Rattle.typed_values.specs.Reached.{IsReached, Mentions, directly, through}
use Rattle.typed_values.proofs.CallerLemmas.{SomeChild, inner_passes, parts_at, same_fits}
use Rattle.api_types.specs.Types.{FitsEach, FitsOne, IsTableOf, ReachesExactly}

unreached : {table : List Definition} {desc : Desc} → ((name : List ℕ) → Mentions desc name → ⊥)
    → (name : List ℕ) → IsReached table desc name → ⊥
unreached none _ (directly name m) = none name m
unreached none _ (through other name e r f m) = unreached none other r

-- what mentions no name reaches none
pub reaches_none : (desc : Desc) → ((name : List ℕ) → Mentions desc name → ⊥) → ReachesExactly [] desc
reaches_none desc none table held name =
    (λ r. absurd (unreached none name r), λ c. absurd (omega (arith, c.1)))

-- what reaches no name mentions none
pub mentions_none : (desc : Desc) → ReachesExactly [] desc → (name : List ℕ) → Mentions desc name → ⊥
mentions_none desc reaches name m =
    let none = (reaches [] (λ e c. absurd (omega (arith, c.1))) name).0 (directly name m) in
    absurd (omega (arith, none.1))

-- what a descriptor mentions that is no reference, one that it is made of does
pub in_child : (d : Desc) (z : DescLevel) → out-Desc d ≡ z → ((name : List ℕ) → z ≡ Desc-F.Ref name → ⊥)
    → (name : List ℕ) → Mentions d name → SomeChild (λ x. Mentions x name) z
in_child d z e other name m =
    (parts_at (λ x. out-Desc x ≡ Desc-F.Ref name) d z e (λ q. other name (sym e ∙ q))).0 m

-- what stands in a whole descriptor
module _ (whole inner : Desc) (stands : StandsIn whole inner) where
  inner_table : {table : List Definition} → IsTableOf [] whole table → IsTableOf [] inner table
  inner_table {table} is = record {
    holds = is.holds;
    table_passes = is.table_passes;
    desc_passes = inner_passes table whole inner (of_whole stands) is.table_passes is.desc_passes;
  }

  same_inside : (t : Tree) (table : List Definition) → IsTableOf [] whole table
      → fits_under table whole t inner ≡ fits_under table inner t inner
  same_inside t table is = same_fits table whole inner (of_whole stands) is.table_passes.guarded t

  pub inner_each : (t : Tree) → FitsEach [] inner t → (table : List Definition) → IsTableOf [] whole table
      → fits_under table whole t inner ≡ true
  inner_each t each table is = same_inside t table is ∙ each table (inner_table is)

  pub inner_one : (t : Tree) (table : List Definition) → IsTableOf [] whole table
      → fits_under table whole t inner ≡ true → FitsOne [] inner t
  inner_one t table is fit = (table, inner_table is, sym (same_inside t table is) ∙ fit)
