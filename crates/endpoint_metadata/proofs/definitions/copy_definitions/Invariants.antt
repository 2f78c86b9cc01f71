use Rattle.std.proofs.Common.{◌≡◌, map}
use Rattle.std.specs.Map.Iter.{deref_pair}
use Rattle.endpoint_metadata.specs.ByBytes.{entries_by_bytes}
use Rattle.endpoint_metadata.proofs.definitions.copy_definitions.Given as goal

-- the definitions so far are copied
abbrev pub invariant-loop-name : goal.invariant-loop-name
invariant-loop-name l = entries_by_bytes l.copies.entries ≡ entries_by_bytes (map deref_pair l.yielded)
