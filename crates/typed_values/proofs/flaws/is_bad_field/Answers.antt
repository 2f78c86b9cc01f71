use Rattle.std.proofs.Common.{sym, true≢false}
use Rattle.std.proofs.lemmas.Bool.Decides.{Decides-not}
use Rattle.typed_values.specs.Checks.{no_option, null_twice, default_misfits}
use Rattle.typed_values.proofs.Fields.{required_right, nullable_bad, skipped_bad, default_bad}
use Rattle.typed_values.proofs.flaws.is_bad_field.Goals as goal

pub returns-in-Required : goal.returns-in-Required
returns-in-Required c = (λ h. absurd (true≢false (sym h)), λ bad. absurd (required_right c.args.table.now c.args.field.now c.in-Required.is bad))

pub returns-in-Nullable : goal.returns-in-Nullable
returns-in-Nullable c =
    let none = Decides-not c.is_option.result c.is_option.ensures in
    (λ h. no_option c.in-Nullable.is (none.0 h), λ bad. none.1 (nullable_bad c.args.table.now c.args.field.now c.in-Nullable.is bad))

pub returns-in-Skipped : goal.returns-in-Skipped
returns-in-Skipped c =
    (λ h. null_twice c.in-Skipped.is (c.takes_null.ensures.0 h), λ bad. c.takes_null.ensures.1 (skipped_bad c.args.table.now c.args.field.now c.in-Skipped.is bad))

pub returns-in-Default : goal.returns-in-Default
returns-in-Default c =
    let misfits = Decides-not c.is_value.result c.is_value.ensures in
    (λ h. default_misfits c.in-Default.tree c.in-Default.is (misfits.0 h), λ bad. misfits.1 (default_bad c.args.table.now c.args.field.now c.in-Default.tree c.in-Default.is bad))
