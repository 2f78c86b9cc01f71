-- What a sound value holds, by its level.
use Rattle.std.proofs.Common.{◌≡◌, ℕ, ℤ, cond, Bool, true, false, List, [], ◌∷◌, Option, Some, None, bytes_eq, codes, refl, sym, ◌∙◌, ap, subst}
use Rattle.std.specs.List.{AllByRecursion}
use Rattle.schema_values.specs.declared.json_value.Json.{Json, out-Json}
use Rattle.schema_values.specs.declared.json_value.Json.TheOpen.{Json-F}
use Rattle.schema_values.specs.declared.json_value.Member.{Member}
use Rattle.schema_values.specs.Get.{first_named, get_of}
use Rattle.schema_values.specs.Sound.{IsSound, IsWhole}
use Rattle.schema_values.specs.SoundMembers.{HasSoundValue}
use Rattle.schema_values.proofs.CallerLemmas.{IsSound-List, IsSound-Object}
use Rattle.openapi_values.specs.Levels.{Level, as_number, as_list, as_object}
use Rattle.openapi_values.specs.Lookup.{member_in, definition}
use Rattle.openapi_values.proofs.LevelLemmas.{number_is, list_is, object_is}

-- the number that a sound value is, its items and its members
pub number_whole : (s : Json) → IsSound s → (k : ℤ) → as_number (out-Json s) ≡ Some k → IsWhole k
number_whole s h k f = subst IsSound (number_is s k f) h

pub listed_sound : (s : Json) → IsSound s → (xs : List Json) → as_list (out-Json s) ≡ Some xs → AllByRecursion IsSound xs
listed_sound s h xs f = (IsSound-List xs).0 (subst IsSound (list_is s xs f) h)

pub values_sound : (s : Json) → IsSound s → (ms : List Member) → as_object (out-Json s) ≡ Some ms → AllByRecursion HasSoundValue ms
values_sound s h ms f = ((IsSound-Object ms).0 (subst IsSound (object_is s ms f) h)).0

-- the value of a name among sound ones
pub named_sound : (name : List ℕ) (ms : List Member) (json : Json) → AllByRecursion HasSoundValue ms → first_named name ms ≡ Some json → IsSound json
named_sound name [] json h f = absurd (cc f)
named_sound name (m ∷ ms) json h f = go (λ e. named_sound name ms json h.1 e) (bytes_eq name m.name) f
  where
    go : (first_named name ms ≡ Some json → IsSound json) → (b : Bool) → cond b (Some m.value) (first_named name ms) ≡ Some json → IsSound json
    go later true e = let same : m.value ≡ json = cc e in subst IsSound same h.0
    go later false e = later e

found_at : (name : List ℕ) (json found : Json) → IsSound json → (x : Level Json) → out-Json json ≡ x → get_of name json ≡ Some found → IsSound found
found_at name json found h (Json-F.Object ms) e f =
    let same : get_of name json ≡ first_named name ms = rw e refl in
    named_sound name ms found (values_sound json h ms (ap as_object e)) (sym same ∙ f)
found_at name json found h Json-F.Null e f = let none : get_of name json ≡ None = rw e refl in absurd (cc (sym none ∙ f))
found_at name json found h (Json-F.Bool b) e f = let none : get_of name json ≡ None = rw e refl in absurd (cc (sym none ∙ f))
found_at name json found h (Json-F.Int n) e f = let none : get_of name json ≡ None = rw e refl in absurd (cc (sym none ∙ f))
found_at name json found h (Json-F.Text t) e f = let none : get_of name json ≡ None = rw e refl in absurd (cc (sym none ∙ f))
found_at name json found h (Json-F.List xs) e f = let none : get_of name json ≡ None = rw e refl in absurd (cc (sym none ∙ f))

pub found_sound : (name : List ℕ) (json found : Json) → IsSound json → get_of name json ≡ Some found → IsSound found
found_sound name json found h f = found_at name json found h (out-Json json) refl f

pub under_sound : (name : List ℕ) (o : Option Json) (found : Json) → ((json : Json) → o ≡ Some json → IsSound json) → member_in o name ≡ Some found → IsSound found
under_sound name None found h f = absurd (cc f)
under_sound name (Some json) found h f = found_sound name json found (h json refl) f

-- a definition of a sound document
pub definition_sound : (doc : Json) (name : List ℕ) (found : Json) → IsSound doc → definition doc name ≡ Some found → IsSound found
definition_sound doc name found h f =
    under_sound name _ found (λ schemas g. under_sound (codes "schemas") _ schemas (λ components i. found_sound (codes "components") doc components h i) g) f
