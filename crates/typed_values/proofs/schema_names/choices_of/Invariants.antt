use Rattle.std.proofs.Common.{◌≡◌, ◌++◌, map, filter, take}
use Rattle.typed_values.specs.SchemaTable.{is_described}
use Rattle.typed_values.specs.Schemas.{texts_of, not_described, plain_choice, described_choice}
use Rattle.typed_values.proofs.schema_names.choices_of.Given as goal

abbrev pub invariant-loop-named : goal.invariant-loop-named
invariant-loop-named l = l.choices
    ≡ plain_choice (texts_of (not_described l.names)) ++ map described_choice (filter is_described (take l.named-index l.names))
