-- Objects, lists and maps of a document are sound where what stands in them is.
use Rattle.std.proofs.Common.{◌≡◌, ℕ, Bool, true, false, List, [], ◌∷◌, map, Option, Some, None, option_map, MatchOption, codes, sym, ap, subst, refl}
use Rattle.std.specs.List.{AllByRecursion}
use Rattle.std.specs.Prelude.{⊤}
use Rattle.std.proofs.lemmas.Bool.{and_parts}
use Rattle.schema_values.specs.declared.json_value.Json.{Json, Text}
use Rattle.schema_values.specs.declared.json_value.Member.{Member}
use Rattle.schema_values.specs.Member.{name_of}
use Rattle.schema_values.specs.Sound.{IsSound, AreDistinct}
use Rattle.schema_values.specs.SoundMembers.{HasSoundValue, HasSoundMembers}
use Rattle.schema_values.specs.SoundTest.{are_distinct}
use Rattle.schema_values.proofs.CallerLemmas.{IsSound-List, IsSound-Object}
use Rattle.openapi_values.specs.IfTrue.{if_true}
use Rattle.openapi_values.specs.Objects.{Entry, list_unless_empty, map_members, members_of, object_of, present, reference_json, unless_empty}
use Rattle.openapi_values.specs.SoundParts.{IsSoundMap, names_of_map}
use Rattle.openapi_values.proofs.Keyed.{IsKeyed, is_new, none_keyed, passed, put}

-- a value is sound where there is one
abbrev pub IsSoundWhere : Option Json → Type 0
IsSoundWhere value = MatchOption value ⊤ IsSound

-- ---- objects with optional members

pub present_keyed : (name : List ℕ) (names : List (List ℕ)) (ms : List Member) → is_new name names ≡ true → IsKeyed names ms → (value : Option Json) → IsSoundWhere value → IsKeyed (name ∷ names) (present name value ms)
present_keyed name names ms new h (Some value) sound = put name value names ms new sound h
present_keyed name names ms new h None sound = passed name names ms h

pub entries_keyed : (es : List Entry) → AllByRecursion (λ e. IsSoundWhere e.1) es → are_distinct (map (λ e. e.0) es) ≡ true → IsKeyed (map (λ e. e.0) es) (members_of es)
entries_keyed [] sound distinct = none_keyed []
entries_keyed (e ∷ es) sound distinct =
    let (new, others) = and_parts (is_new e.0 (map (λ e. e.0) es)) (are_distinct (map (λ e. e.0) es)) distinct in
    present_keyed e.0 (map (λ e. e.0) es) (members_of es) new (entries_keyed es sound.1 others) e.1 sound.0

-- an object of entries of distinct names
pub object_sound : (es : List Entry) → are_distinct (map (λ e. e.0) es) ≡ true → AllByRecursion (λ e. IsSoundWhere e.1) es → IsSound (object_of es)
object_sound es distinct sound = (IsSound-Object (members_of es)).1 (entries_keyed es sound distinct).sound

pub reference_is_sound : (reference : List ℕ) → IsSound (reference_json reference)
reference_is_sound reference = object_sound ((codes "$ref", Some (Text reference)) ∷ []) refl (tt, tt)

-- ---- optional values

pub some_sound : {X : Type 0} (P : X → Type 0) (json : X → Json) → ((x : X) → P x → IsSound (json x)) → (o : Option X) → MatchOption o ⊤ P → IsSoundWhere (option_map json o)
some_sound P json each None sound = tt
some_sound P json each (Some x) sound = each x sound

pub text_where : (o : Option (List ℕ)) → IsSoundWhere (option_map Text o)
text_where None = tt
text_where (Some text) = tt

pub truth_where : (b : Bool) → IsSoundWhere (if_true b)
truth_where true = tt
truth_where false = tt

-- ---- lists and maps

pub all_sound : {X : Type 0} (P : X → Type 0) (json : X → Json) → ((x : X) → P x → IsSound (json x)) → (xs : List X) → AllByRecursion P xs → AllByRecursion IsSound (map json xs)
all_sound P json each [] sound = tt
all_sound P json each (x ∷ xs) sound = (each x sound.0, all_sound P json each xs sound.1)

pub each_text : (texts : List (List ℕ)) → AllByRecursion IsSound (map Text texts)
each_text [] = tt
each_text (text ∷ texts) = (tt, each_text texts)

pub list_where : (js : List Json) → AllByRecursion IsSound js → IsSoundWhere (list_unless_empty js)
list_where [] sound = tt
list_where (j ∷ js) sound = (IsSound-List (j ∷ js)).1 sound

pub members_where : (ms : List Member) → HasSoundMembers ms → IsSoundWhere (unless_empty ms)
members_where [] sound = tt
members_where (m ∷ ms) sound = (IsSound-Object (m ∷ ms)).1 sound

module _ {X : Type 0} (P : X → Type 0) (json : X → Json) (each : (x : X) → P x → IsSound (json x)) where
  values_sound : (entries : List (List ℕ × X)) → AllByRecursion (λ entry. P entry.1) entries → AllByRecursion HasSoundValue (map_members json entries)
  values_sound [] sound = tt
  values_sound (entry ∷ entries) sound = (each entry.1 sound.0, values_sound entries sound.1)

  named_alike : (entries : List (List ℕ × X)) → map name_of (map_members json entries) ≡ names_of_map entries
  named_alike [] = refl
  named_alike (entry ∷ entries) = ap (λ names. entry.0 ∷ names) (named_alike entries)

  pub map_sound : (entries : List (List ℕ × X)) → IsSoundMap P entries → HasSoundMembers (map_members json entries)
  map_sound entries sound = (values_sound entries sound.0, subst AreDistinct (sym (named_alike entries)) sound.1)

  pub map_where : (entries : List (List ℕ × X)) → IsSoundMap P entries → IsSoundWhere (unless_empty (map_members json entries))
  map_where entries sound = members_where (map_members json entries) (map_sound entries sound)
