use Rattle.std.proofs.Common.{◌≡◌, take}
use Rattle.typed_values.specs.Schemas.{texts_of, not_described}
use Rattle.typed_values.proofs.schema_names.plain_texts.Given as goal

abbrev pub invariant-loop-named : goal.invariant-loop-named
invariant-loop-named l = l.texts ≡ texts_of (not_described (take l.named-index l.names))
