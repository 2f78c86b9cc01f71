use Rattle.std.proofs.Common.{Some, None, refl, ap}
use Rattle.std.proofs.lemmas.Option.{slice_get_read, slice_get_past}
use Rattle.schema_values.specs.declared.json_value.Json.{Text}
use Rattle.typed_values.proofs.EncodeRows.{named_row}
use Rattle.typed_values.proofs.FitRows.{below_true, below_false}
use Rattle.typed_values.proofs.encode.encode_name.Goals as goal

pub returns-in_ok-copy-in-Some : goal.returns-in_ok-copy-in-Some
returns-in_ok-copy-in-Some c =
    rw (named_row c.args.names.now c.args.tree.now c.in-Variant.place c.in-Variant.field-1 (Some c.in-Some.named.now) c.in-Variant.is (slice_get_read c.args.names.now _ c.in-Variant.place c.in-Some.named.now refl (below_true _ _ c.in-Some.ensures.lookup.0) c.in-Some.ensures.lookup.1))
    (ap Text c.in_ok-copy-in-Some.ensures)

pub returns-in-None : goal.returns-in-None
returns-in-None c =
    rw (named_row c.args.names.now c.args.tree.now c.in-Variant.place c.in-Variant.field-1 None c.in-Variant.is (slice_get_past c.args.names.now c.in-Variant.place (below_false _ _ c.in-None.ensures.lookup.0))) refl
