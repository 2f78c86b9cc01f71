-- What the shapes of the operations owe. `shape_of` is a table by operation, which unfolds only of a known one: hence
-- the cases, though what is shown is the same of each.
use Rattle.std.proofs.Common.{refl}
use Rattle.api_respond.specs.Replies.{HasHttpErrors, IsFreeformWithoutCode}
use Rattle.sample_types.specs.declared.operation.Operation.{Operation}
use Rattle.sample_types.specs.declared.operation.Operation.TheVariants as operations
use Rattle.sample_types.specs.Operations.{shape_of}

-- each has a code
pub has_code : (o : Operation) → IsFreeformWithoutCode (shape_of o)
has_code operations.PointCreate = record { content = λ none. absurd (cc none); headers = λ none. refl }
has_code operations.PointProbe = record { content = λ none. absurd (cc none); headers = λ none. refl }
has_code operations.PointDrop = record { content = λ none. absurd (cc none); headers = λ none. refl }
has_code operations.RawSize = record { content = λ none. absurd (cc none); headers = λ none. refl }
has_code operations.FolderCount = record { content = λ none. absurd (cc none); headers = λ none. refl }
has_code operations.Inner = record { content = λ none. absurd (cc none); headers = λ none. refl }

-- the errors of each are those of the library
pub has_errors : (o : Operation) → HasHttpErrors (shape_of o)
has_errors operations.PointCreate = record { named = refl; defined = refl }
has_errors operations.PointProbe = record { named = refl; defined = refl }
has_errors operations.PointDrop = record { named = refl; defined = refl }
has_errors operations.RawSize = record { named = refl; defined = refl }
has_errors operations.FolderCount = record { named = refl; defined = refl }
has_errors operations.Inner = record { named = refl; defined = refl }
