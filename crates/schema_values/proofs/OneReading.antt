-- Bytes read as one JSON value at most.
use Rattle.std.proofs.Common.{◌≡◌, ℕ, List, Some, sym, ◌∙◌}
use Rattle.schema_values.specs.declared.json_value.Json.{Json}
use Rattle.schema_values.specs.Reading.{Reads}

pub one_reading : (bytes : List ℕ) (i j : Json) → Reads bytes i → Reads bytes j → i ≡ j
one_reading bytes i j a b = let same : Some i ≡ Some j = sym a.1 ∙ b.1 in cc same
