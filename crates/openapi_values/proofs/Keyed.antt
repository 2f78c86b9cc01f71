-- Members whose names are among some, each once, and whose values are sound.
use Rattle.std.proofs.Common.{◌≡◌, ◌≢◌, ℕ, Bool, true, not, List, [], ◌∷◌, map, bytes_eq}
use Rattle.std.specs.List.{list_all, AllByRecursion}
use Rattle.std.proofs.lemmas.Bool.{and_parts}
use Rattle.std.proofs.lemmas.Bool.Decides.{Decides-not}
use Rattle.std.proofs.lemmas.Slice.Eq.{bytes_eq-Decides}
use Rattle.schema_values.specs.declared.json_value.Json.{Json}
use Rattle.schema_values.specs.declared.json_value.Member.{Member}
use Rattle.schema_values.specs.Member.{name_of, member}
use Rattle.schema_values.specs.Sound.{IsSound}
use Rattle.schema_values.specs.SoundMembers.{HasSoundMembers}

-- a name is none of some
abbrev pub is_new : List ℕ → List (List ℕ) → Bool
is_new name names = list_all (λ other. not (bytes_eq name other)) names

-- the members are sound, and a name that is none of the names is none of theirs
pub record IsKeyed (names : List (List ℕ)) (ms : List Member) : Type 0 where
  pub sound : HasSoundMembers ms
  pub new : (name : List ℕ) → is_new name names ≡ true → AllByRecursion (λ other. name ≢ other) (map name_of ms)

pub none_keyed : (names : List (List ℕ)) → IsKeyed names []
none_keyed names = record { sound = (tt, tt); new = λ name e. tt }

-- one more name that no member has
pub passed : (name : List ℕ) (names : List (List ℕ)) (ms : List Member) → IsKeyed names ms → IsKeyed (name ∷ names) ms
passed name names ms h = record {
  sound = h.sound;
  new = λ other e. h.new other (and_parts (not (bytes_eq other name)) (is_new other names) e).1;
}

-- one more member, of a new name
pub put : (name : List ℕ) (value : Json) (names : List (List ℕ)) (ms : List Member) → is_new name names ≡ true → IsSound value → IsKeyed names ms → IsKeyed (name ∷ names) (member name value ∷ ms)
put name value names ms e sound h = record {
  sound = ((sound, h.sound.0), (h.new name e, h.sound.1));
  new = λ other n.
      let (first, rest) = and_parts (not (bytes_eq other name)) (is_new other names) n in
      ((Decides-not (bytes_eq other name) (bytes_eq-Decides other name)).0 first, h.new other rest);
}
