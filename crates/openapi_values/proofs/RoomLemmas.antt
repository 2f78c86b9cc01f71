-- How the values in a value are counted.
use Rattle.std.proofs.Common.{◌≡◌, ℕ, suc, List, [], ◌∷◌, map, sum, refl, ap, ◌∙◌}
use Rattle.schema_values.specs.declared.json_value.Json.{Json, out-Json}
use Rattle.schema_values.specs.declared.json_value.Json.TheOpen.{Json-F}
use Rattle.schema_values.specs.declared.json_value.Json.TheFolds.{fold-Member, fold_out-Member, fold_out-Json, map-Json}
use Rattle.schema_values.specs.declared.json_value.Member.{Member}
use Rattle.openapi_values.specs.Room.{values_step, values_of_member, values}
use Rattle.openapi_values.specs.ValuesOfMembers.{member_values}

abbrev by_fold : Member → ℕ
by_fold = fold-Member ℕ ℕ values_step values_of_member

member_fold : (m : Member) → by_fold m ≡ member_values m
unfolding values
member_fold m = fold_out-Member ℕ ℕ values_step values_of_member m

all_fold : (ms : List Member) → map by_fold ms ≡ map member_values ms
all_fold [] = refl
all_fold (m ∷ ms) = ap (λ n. n ∷ map by_fold ms) (member_fold m) ∙ ap (λ ns. member_values m ∷ ns) (all_fold ms)

-- the count, from one level
abbrev pub values_row : Json-F Json Member → ℕ
values_row (Json-F.List xs) = suc (sum (map values xs))
values_row (Json-F.Object ms) = suc (sum (map member_values ms))
values_row _ = 1

row_by_fold : (x : Json-F Json Member) → values_step (map-Json Json Member ℕ ℕ values by_fold x) ≡ values_row x
row_by_fold Json-F.Null = refl
row_by_fold (Json-F.Bool b) = refl
row_by_fold (Json-F.Int n) = refl
row_by_fold (Json-F.Text t) = refl
row_by_fold (Json-F.List xs) = refl
row_by_fold (Json-F.Object ms) = ap (λ ns. suc (sum ns)) (all_fold ms)

pub values_is : (j : Json) → values j ≡ values_row (out-Json j)
unfolding values
values_is j = fold_out-Json ℕ ℕ values_step values_of_member j ∙ row_by_fold (out-Json j)
