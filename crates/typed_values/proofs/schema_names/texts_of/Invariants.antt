use Rattle.std.proofs.Common.{◌≡◌, take}
use Rattle.typed_values.specs.Schemas.{texts_of}
use Rattle.typed_values.proofs.schema_names.texts_of.Given as goal

abbrev pub invariant-loop-named : goal.invariant-loop-named
invariant-loop-named l = l.texts ≡ texts_of (take l.named-index l.names)
