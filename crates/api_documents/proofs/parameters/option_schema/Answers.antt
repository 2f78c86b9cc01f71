use Rattle.std.proofs.Common.{[], sym, subst, arith}
use Rattle.std.specs.Prelude.{Contains}
use Rattle.typed_values.specs.Checks.{TablePasses}
use Rattle.api_documents.proofs.parameters.option_schema.Goals as goal

nothing : {A : Type 0} (x : A) → Contains [] x → ⊥
nothing x inside = absurd (omega (arith, inside.1))

-- no definition fails
empty_passes : TablePasses []
empty_passes = record {
  once = tt;
  named = λ e inside. absurd (nothing e inside);
  guarded = λ e inside. absurd (nothing e inside);
  each = λ e inside. absurd (nothing e inside);
}

pub placed_schema-requires : goal.placed_schema-requires
placed_schema-requires c = subst TablePasses (sym c.new-table.ensures) empty_passes
