-- How many JSON values each schema of a document's components has.
use Rattle.std.proofs.Common.{◌≡◌, ℕ, ◌≤◌, Bool, true, false, List, [], ◌∷◌, map, Some, option_map, bytes_eq, cond, refl, sym, ◌∙◌, ap, arith}
use Rattle.std.specs.Prelude.{find}
use Rattle.std.proofs.lemmas.List.Sums.{sum_by-cons}
use Rattle.schema_values.specs.declared.json_value.Json.{Json}
use Rattle.schema_values.specs.declared.json_value.Member.{Member}
use Rattle.schema_values.specs.Get.{first_named}
use Rattle.openapi_values.specs.Find.{value_at}
use Rattle.openapi_values.specs.Lookup.{definition}
use Rattle.openapi_values.specs.Room.{values}
use Rattle.openapi_values.specs.ValuesOfMembers.{member_values}
use Rattle.openapi_values.proofs.CallerLemmas.{total, schemas_in, definition_found, schemas_fit}
use Rattle.schema_meaning.proofs.Sizes.{Sizes, summed}

-- the number of values of each schema, under its name
abbrev pub sizes_in : Json → Sizes
sizes_in doc = map (λ m. (m.name, values m.value)) (schemas_in doc)

size_named : (name : List ℕ) (ms : List Member) → value_at name (map (λ (m : Member). (m.name, values m.value)) ms) ≡ option_map values (first_named name ms)
size_named name [] = refl
size_named name (m ∷ ms) = by_name (bytes_eq name m.name) (size_named name ms)
  where
    by_name : (b : Bool) → value_at name (map (λ (m : Member). (m.name, values m.value)) ms) ≡ option_map values (first_named name ms)
        → option_map (λ (pair : List ℕ × ℕ). pair.1) (cond b (Some (m.name, values m.value)) (find (λ pair. bytes_eq name pair.0) (map (λ (m : Member). (m.name, values m.value)) ms))) ≡ option_map values (cond b (Some m.value) (first_named name ms))
    by_name true later = refl
    by_name false later = later

pub size_of_definition : (doc : Json) (name : List ℕ) → value_at name (sizes_in doc) ≡ option_map values (definition doc name)
size_of_definition doc name = size_named name (schemas_in doc) ∙ ap (option_map values) (sym (definition_found doc name))

summed_total : (ms : List Member) → summed (λ name k. k) (map (λ m. (m.name, values m.value)) ms) ≡ total ms
unfolding total
summed_total [] = refl
summed_total (m ∷ ms) =
    omega (arith, summed_total ms, sum_by-cons (λ n. n) (values m.value) (map (λ (e : List ℕ × ℕ). e.1) (map (λ (m : Member). (m.name, values m.value)) ms)), sum_by-cons (λ n. n) (member_values m) (map member_values ms))

-- they are no more than the values of the document
pub sizes_fit : (doc : Json) → summed (λ name k. k) (sizes_in doc) ≤ values doc
sizes_fit doc = omega (arith, summed_total (schemas_in doc), schemas_fit doc)
