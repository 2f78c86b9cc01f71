-- How many steps are left, where a schema is asked of a text.
use Rattle.std.proofs.Common.{◌≡◌, ℕ, zero, suc, false, List, refl, ap}
use Rattle.schema_values.specs.declared.json_value.Json.{Json}
use Rattle.openapi_values.specs.TextAdmits.{text_step, text_within}

pub within-zero : (doc : Json) (text : List ℕ) (s : Json) → text_within doc text zero s ≡ false
unfolding text_within
within-zero doc text s = refl

-- one step of a schema, where so many are left
pub within-suc : (doc : Json) (text : List ℕ) (n steps : ℕ) (s : Json) → suc n ≡ steps → text_step doc (text_within doc text n) text s ≡ text_within doc text steps s
unfolding text_within
within-suc doc text n steps s more = ap (λ (m : ℕ). text_within doc text m s) more
