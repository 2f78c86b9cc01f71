-- An operation of a sound document is sound, and so is what it holds.
use Rattle.std.proofs.Common.{◌≡◌, ℕ, List, [], Option, Some, None, IfSome, option_map, option_and_then, unwrap_or, Bor, codes, refl, sym}
use Rattle.std.specs.List.{AllByRecursion}
use Rattle.std.proofs.lemmas.Option.{option_and_then_some}
use Rattle.schema_values.specs.declared.json_value.Json.{Json, out-Json}
use Rattle.schema_values.specs.declared.json_value.Member.{Member}
use Rattle.schema_values.specs.Get.{get_of, first_named}
use Rattle.schema_values.specs.Sound.{IsSound}
use Rattle.schema_values.specs.SoundMembers.{HasSoundValue}
use Rattle.openapi_values.specs.Admits.{method_member, path_item_at, operation_at, parameters_of}
use Rattle.openapi_values.specs.Levels.{as_list}
use Rattle.openapi_values.specs.Lookup.{member_in}
use Rattle.openapi_values.specs.RequestBodies.{media_in, schema_under}
use Rattle.openapi_values.proofs.CallerLemmas.{found_sound, under_sound, listed_sound, named_sound}

pub operation_sound : (doc : Json) (path method : List ℕ) (operation : Json) → IsSound doc → operation_at doc path method ≡ Some operation → IsSound operation
operation_sound doc path method operation sound is =
    option_and_then_some (member_in (path_item_at doc path)) (method_member method) operation is (λ name _ under.
    under_sound name (path_item_at doc path) operation (λ item at_path.
    under_sound path (get_of (codes "paths") doc) item (λ paths found. found_sound (codes "paths") doc paths sound found) at_path) under)

listed : (json : Json) → IsSound json → (o : Option (List Json)) → as_list (out-Json json) ≡ o → AllByRecursion IsSound (unwrap_or o [])
listed json sound None e = tt
listed json sound (Some xs) e = listed_sound json sound xs e

-- its parameters are
pub parameters_sound : (operation : Json) → IsSound operation → AllByRecursion IsSound (parameters_of operation)
parameters_sound operation sound = by_member (get_of (codes "parameters") operation) refl
  where
    by_member : (o : Option Json) → get_of (codes "parameters") operation ≡ o → AllByRecursion IsSound (unwrap_or (option_and_then (λ parameters. as_list (out-Json parameters)) o) [])
    by_member None e = tt
    by_member (Some parameters) e = listed parameters (found_sound (codes "parameters") operation parameters sound e) (as_list (out-Json parameters)) refl

-- the schema under a media type of its body is
pub schema_sound : (media : List ℕ) (body schema : Json) → IsSound body → schema_under media body ≡ Some schema → IsSound schema
schema_sound media body schema sound is =
    under_sound (codes "schema") (media_in media body) schema (λ content at_media. under_sound media (get_of (codes "content") body) content (λ contents found. found_sound (codes "content") body contents sound found) at_media) is

-- what a call found among sound members is
pub named_told : (name : List ℕ) (members : List Member) → AllByRecursion HasSoundValue members → (r : Option (Bor Json)) → option_map (λ (json : Bor Json). json.now) r ≡ first_named name members → IfSome r (λ json. IsSound json.now)
named_told name members sound None is = tt
named_told name members sound (Some json) is = named_sound name members json.now sound (sym is)
