-- Whether a value is a text, told by the test of equal values.
use Rattle.std.proofs.Common.{◌≡◌, ◌↔◌, ℕ, Bool, List, IsTrue}
use Rattle.schema_values.specs.declared.json_value.Json.{Json, Text}
use Rattle.schema_values.specs.Same.{same_json}
use Rattle.schema_values.proofs.CallerLemmas.{same_told}

pub same_text : (text : List ℕ) (json : Json) (b : Bool) → (IsTrue b ↔ (Text text ≡ json)) → b ≡ same_json (Text text) json
same_text text json b told = same_told (Text text) json b told
