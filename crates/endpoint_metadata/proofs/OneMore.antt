-- Parameters that are told one by one.
use Rattle.std.proofs.Common.{◌≡◌, ℕ, ◌+◌, ◌<◌, List, [], ◌∷◌, ◌++◌, append_assoc, ap, get_or, length, map, sym, take}
use Rattle.std.proofs.Common.{◌∙◌}
use Rattle.std.proofs.lemmas.List.{map_more, map_push}
use Rattle.endpoint_metadata.specs.declared.parameter.ApiEndpointParameter.{ApiEndpointParameter}
use Rattle.endpoint_metadata.specs.Values.{ParameterValue, parameter_value, parameter_values}

-- one more parameter behind those of before and some values
pub one_more : (before values : List ParameterValue) (told new : List ApiEndpointParameter) (one : ApiEndpointParameter)
    (value : ParameterValue) → new ≡ told ++ one ∷ [] → parameter_value one ≡ value
    → parameter_values told ≡ before ++ values → parameter_values new ≡ before ++ (values ++ value ∷ [])
one_more before values told new one value grown is so_far =
    ap parameter_values grown
    ∙ map_push parameter_value told one
    ∙ ap (λ (vs : List ParameterValue). vs ++ parameter_value one ∷ []) so_far
    ∙ append_assoc before values (parameter_value one ∷ [])
    ∙ ap (λ v. before ++ (values ++ v ∷ [])) is

-- what a function gives of some items and of the next one
pub one_further : {X Y : Type 0} (f : X → Y) (xs : List X) (i : ℕ) (x : X) → i < length xs → x ≡ get_or xs i x
    → map f (take i xs) ++ f x ∷ [] ≡ map f (take (i + 1) xs)
one_further f xs i x less at = ap (λ y. map f (take i xs) ++ f y ∷ []) at ∙ sym (map_more f xs i x less)
