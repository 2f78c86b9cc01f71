-- How many steps are left, where a schema leads to another; and that what a sound schema leads to is sound.
use Rattle.std.proofs.Common.{◌≡◌, ℕ, zero, suc, List, [], ◌∷◌, Option, Some, None, option_and_then, refl, ap, subst, codes}
use Rattle.std.specs.List.{AllByRecursion}
use Rattle.std.specs.Option.{option_map_or}
use Rattle.schema_values.specs.declared.json_value.Json.{Json, out-Json}
use Rattle.schema_values.specs.declared.json_value.Member.{Member}
use Rattle.schema_values.specs.Get.{first_named}
use Rattle.schema_values.specs.Sound.{IsSound}
use Rattle.schema_values.specs.SoundMembers.{HasSoundValue}
use Rattle.openapi_values.specs.FormAdmits.{only_schema, resolved_step, resolved_within}
use Rattle.openapi_values.specs.Levels.{as_list, as_object}
use Rattle.openapi_values.specs.Lookup.{definition, reference_in}
use Rattle.openapi_values.proofs.SoundLevels.{listed_sound, values_sound, named_sound, definition_sound}

pub resolved-zero : (doc s : Json) → resolved_within doc zero s ≡ None
unfolding resolved_within
resolved-zero doc s = refl

-- one step of a schema, where so many are left
pub resolved-suc : (doc : Json) (n steps : ℕ) (s : Json) → suc n ≡ steps → option_and_then (resolved_step doc (resolved_within doc n)) (as_object (out-Json s)) ≡ resolved_within doc steps s
unfolding resolved_within
resolved-suc doc n steps s more = ap (λ (m : ℕ). resolved_within doc m s) more

-- a schema that leads to sound members, where it is sound
abbrev LeadsToSound : (Json → Option (List Member)) → Type 0
LeadsToSound next = (s : Json) → IsSound s → (ms : List Member) → next s ≡ Some ms → AllByRecursion HasSoundValue ms

then_sound : (next : Json → Option (List Member)) (o : Option Json) → LeadsToSound next → ((s : Json) → o ≡ Some s → IsSound s) → (ms : List Member) → option_and_then next o ≡ Some ms → AllByRecursion HasSoundValue ms
then_sound next None leads sound ms e = absurd (cc e)
then_sound next (Some s) leads sound ms e = leads s (sound s refl) ms e

only_sound : (xs : List Json) → AllByRecursion IsSound xs → (s : Json) → only_schema xs ≡ Some s → IsSound s
only_sound [] h s e = absurd (cc e)
only_sound (x ∷ []) h s e = let same : x ≡ s = cc e in subst IsSound same h.0
only_sound (x ∷ y ∷ xs) h s e = absurd (cc e)

listed_only_sound : (all : Json) → IsSound all → (o : Option (List Json)) → as_list (out-Json all) ≡ o → (s : Json) → option_and_then only_schema o ≡ Some s → IsSound s
listed_only_sound all h None e s f = absurd (cc f)
listed_only_sound all h (Some xs) e s f = only_sound xs (listed_sound all h xs e) s f

module _ (doc : Json) (sound : IsSound doc) where
  all_of_sound : (next : Json → Option (List Member)) → LeadsToSound next → (schema : List Member) → AllByRecursion HasSoundValue schema → (o : Option Json) → first_named (codes "allOf") schema ≡ o
      → (ms : List Member) → option_map_or (λ all. option_and_then next (option_and_then only_schema (as_list (out-Json all)))) o (Some schema) ≡ Some ms → AllByRecursion HasSoundValue ms
  all_of_sound next leads schema h None e ms f = let same : schema ≡ ms = cc f in subst (AllByRecursion HasSoundValue) same h
  all_of_sound next leads schema h (Some all) e ms f =
      then_sound next (option_and_then only_schema (as_list (out-Json all))) leads (λ s g. listed_only_sound all (named_sound (codes "allOf") schema all h e) (as_list (out-Json all)) refl s g) ms f

  step_sound : (next : Json → Option (List Member)) → LeadsToSound next → (schema : List Member) → AllByRecursion HasSoundValue schema → (o : Option (List ℕ)) → reference_in schema ≡ o
      → (ms : List Member) → option_map_or (λ name. option_and_then next (definition doc name)) o (option_map_or (λ all. option_and_then next (option_and_then only_schema (as_list (out-Json all)))) (first_named (codes "allOf") schema) (Some schema)) ≡ Some ms
      → AllByRecursion HasSoundValue ms
  step_sound next leads schema h None e ms f = all_of_sound next leads schema h (first_named (codes "allOf") schema) refl ms f
  step_sound next leads schema h (Some name) e ms f = then_sound next (definition doc name) leads (λ s g. definition_sound doc name s sound g) ms f

  object_sound : (next : Json → Option (List Member)) → LeadsToSound next → (s : Json) → IsSound s → (o : Option (List Member)) → as_object (out-Json s) ≡ o → (ms : List Member) → option_and_then (resolved_step doc next) o ≡ Some ms → AllByRecursion HasSoundValue ms
  object_sound next leads s h None e ms f = absurd (cc f)
  object_sound next leads s h (Some schema) e ms f = step_sound next leads schema (values_sound s h schema e) (reference_in schema) refl ms f

  pub resolved_sound : (n : ℕ) (s : Json) → IsSound s → (ms : List Member) → resolved_within doc n s ≡ Some ms → AllByRecursion HasSoundValue ms
  unfolding resolved_within
  resolved_sound zero s h ms e = absurd (cc e)
  resolved_sound (suc n) s h ms e = object_sound (resolved_within doc n) (resolved_sound n) s h (as_object (out-Json s)) refl ms e
