-- A descriptor that stands in another or in its table, whose definitions are some of those of the other.
use Rattle.std.proofs.Common.{◌≡◌, true, List, sym, ◌∙◌}
use Rattle.std.specs.Prelude.{Contains}
use Rattle.descriptors.specs.declared.desc.Desc.{Desc}
use Rattle.descriptors.specs.declared.table.Definition.{Definition}
use Rattle.descriptors.specs.declared.tree.Tree.{Tree}
use Rattle.typed_values.specs.Fits.{fits_under}
use Rattle.typed_values.specs.Parts.{IsPart}
use Rattle.typed_values.proofs.CallerLemmas.{inner_passes, same_fits}
use Rattle.api_types.specs.Types.{IsTableOf, FitsEach, FitsOne}

module _ (ds es : List Definition) (whole inner : Desc) (fewer : (e : Definition) → Contains es e → Contains ds e) (inside : (table : List Definition) → IsTableOf ds whole table → IsPart table whole inner) where
  -- a table of the whole is one of the other
  inner_table : (table : List Definition) → IsTableOf ds whole table → IsTableOf es inner table
  inner_table table is = record {
    holds = λ e c. is.holds e (fewer e c);
    table_passes = is.table_passes;
    desc_passes = inner_passes table whole inner (inside table is) is.table_passes is.desc_passes;
  }

  pub part_each : (t : Tree) → FitsEach es inner t → (table : List Definition) → IsTableOf ds whole table → fits_under table whole t inner ≡ true
  part_each t each table is = same_fits table whole inner (inside table is) is.table_passes.guarded t ∙ each table (inner_table table is)

  pub part_one : (t : Tree) (table : List Definition) → IsTableOf ds whole table → fits_under table whole t inner ≡ true → FitsOne es inner t
  part_one t table is fit = (table, inner_table table is, sym (same_fits table whole inner (inside table is) is.table_passes.guarded t) ∙ fit)
