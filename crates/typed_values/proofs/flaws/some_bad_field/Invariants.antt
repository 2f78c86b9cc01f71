use Rattle.std.proofs.Common.{◌≡◌, ℕ, ◌<◌, get_or}
use Rattle.descriptors.specs.declared.desc.Field.{Field}
use Rattle.typed_values.specs.Checks.{IsBadField}
use Rattle.typed_values.proofs.flaws.some_bad_field.Given as goal

abbrev pub invariant-loop-field : goal.invariant-loop-field
invariant-loop-field l = (k : ℕ) (f : Field) → k < l.field-index → get_or l.fields k f ≡ f → IsBadField l.table f → ⊥
