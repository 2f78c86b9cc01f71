-- What a name stands for among variables.
use Rattle.std.proofs.Common.{◌≡◌, ℕ, List, [], ◌∷◌, refl}
use Rattle.std.specs.Prelude.{bytes_eq}
use Rattle.std.specs.BTreeMap.{is_at}
use Rattle.std.specs.Map.{lookup}
use Rattle.std.proofs.lemmas.Map.Text.{is_eq-slice_cmp}
use Rattle.path_templates.specs.Places.{text_order}
use Rattle.path_templates.specs.Variables.{Variables}

pub value_is : (name : List ℕ) (variables : Variables) → lookup (is_at (text_order name)) variables ≡ lookup (bytes_eq name) variables
value_is name [] = refl
value_is name (variable ∷ variables) = rw (is_eq-slice_cmp name variable.0, value_is name variables) refl
