-- The schema of each form of descriptor is sound, where those that it is made of are.
use Rattle.std.proofs.Common.{◌≡◌, ℕ, ℤ, ◌≤◌, Bool, true, false, nat_le, not, List, [], ◌∷◌, ◌++◌, map, filter, Option, Some, None, MatchOption, if◌then◌else◌, codes, refl, arith}
use Rattle.std.proofs.lemmas.Bool.Decides.{nat_tests}
use Rattle.std.proofs.lemmas.Int.{ints}
use Rattle.std.specs.List.{AllByRecursion, list_any, list_all}
use Rattle.std.specs.Option.{option_map_or}
use Rattle.std.specs.Prelude.{⊤}
use Rattle.schema_values.specs.declared.json_value.Json.{Json, Null as NullJson, Bool as Truth, Text as Words, List as Items, Object}
use Rattle.schema_values.specs.declared.json_value.Member.{Member}
use Rattle.schema_values.specs.Member.{member, name_of}
use Rattle.schema_values.specs.Order.{sorted_by, same_name}
use Rattle.schema_values.specs.Sound.{IsSound, IsWhole}
use Rattle.schema_values.specs.SoundMembers.{HasSoundValue, HasSoundMembers}
use Rattle.schema_values.proofs.CallerLemmas.{AreDistinct-sorted, all_sorted, IsSound-List, IsSound-Object}
use Rattle.descriptors.specs.declared.desc.IntKind.{IntKind}
use Rattle.descriptors.specs.declared.desc.Named.{Named}
use Rattle.typed_values.specs.SchemaTable.{Drawn, plain, all_or_none, reference, enumerated, enumeration, described, described_choice, plain_choice, choices_of, drawn_json, format_of, if_count, if_denied, if_number, if_text, is_described, null_alone, of_type, one_character, other_members, struct_drawn}
use Rattle.descriptors.specs.Definitions.{listed_name}
use Rattle.typed_values.proofs.CallerLemmas.{sorted_ascends}
use Rattle.openapi_values.specs.SoundContents.{IsCount}
use Rattle.openapi_values.proofs.CallerLemmas.{IsKeyed, is_new, none_keyed, put}
use Rattle.written_schemas.proofs.KeyedMembers.{IsSoundlyDrawn, notes, count_keyed, denied_keyed, described_sound, drawn_sound, members_keyed, names_keyed, number_keyed, text_keyed, texts_sound}

-- in order, members are as sound
pub sorted_sound : (ms : List Member) → HasSoundMembers ms → HasSoundMembers (sorted_by name_of ms)
sorted_sound ms h = (all_sorted HasSoundValue name_of ms h.0, AreDistinct-sorted (map name_of (sorted_by name_of ms)) (sorted_ascends name_of ms h.1))

-- a schema without annotations, of keyed members
pub plainly_sound : (names : List (List ℕ)) (ms : List Member) → IsKeyed names ms → list_all (λ note. is_new note names) notes ≡ true → IsSoundlyDrawn (plain ms)
plainly_sound names ms h apart = record { names = names; keyed = h; apart = apart; default_sound = tt }

-- a schema of one member
one_sound : (name : List ℕ) (value : Json) → list_all (λ note. is_new note (name ∷ [])) notes ≡ true → IsSound value → IsSoundlyDrawn (plain (member name value ∷ []))
one_sound name value apart sound = plainly_sound (name ∷ []) (member name value ∷ []) (put name value [] [] refl sound (none_keyed [])) apart

pub every_sound : (b : Bool) → IsSoundlyDrawn (all_or_none b)
every_sound true = record { names = []; keyed = none_keyed []; apart = refl; default_sound = tt }
every_sound false =
    let not_any : IsSound (Object []) = (IsSound-Object []).1 (tt, tt) in
    record { names = codes "not" ∷ []; keyed = put (codes "not") (Object []) [] [] refl not_any (none_keyed []); apart = refl; default_sound = tt }

-- members of a type, whose names are not `type`
of_type_sound : (type : List ℕ) (names : List (List ℕ)) (ms : List Member) → is_new (codes "type") names ≡ true → list_all (λ note. is_new note (codes "type" ∷ names)) notes ≡ true → IsKeyed names ms → IsSoundlyDrawn (plain (of_type type ms))
of_type_sound type names ms new apart h = plainly_sound (codes "type" ∷ names) (of_type type ms) (put (codes "type") (Words type) names ms new tt h) apart

pub truth_sound : IsSoundlyDrawn (plain (of_type (codes "boolean") []))
truth_sound = of_type_sound (codes "boolean") [] [] refl refl (none_keyed [])

enum_keyed : (values : List Json) → AllByRecursion IsSound values → IsKeyed (codes "enum" ∷ []) (member (codes "enum") (Items values) ∷ [])
enum_keyed values sound = put (codes "enum") (Items values) [] [] refl ((IsSound-List values).1 sound) (none_keyed [])

pub null_alone_sound : IsSoundlyDrawn null_alone
null_alone_sound = of_type_sound (codes "string") (codes "enum" ∷ []) _ refl refl (enum_keyed (NullJson ∷ []) (tt, tt))

pub reference_sound : (name : List ℕ) → IsSoundlyDrawn (reference name)
reference_sound name = record {
  names = codes "$ref" ∷ [];
  keyed = put (codes "$ref") (Words (codes "#/components/schemas/" ++ name)) [] [] refl tt (none_keyed []);
  apart = refl;
  default_sound = tt;
}

-- ---- bounds

-- two counts under names of their own
counts_keyed : (least greatest : List ℕ) (min max : Option ℕ) → is_new least (greatest ∷ []) ≡ true → MatchOption min ⊤ IsCount → MatchOption max ⊤ IsCount → IsKeyed (least ∷ greatest ∷ []) (if_count min least (if_count max greatest []))
counts_keyed least greatest min max new low high = count_keyed least (greatest ∷ []) _ new (count_keyed greatest [] [] refl (none_keyed []) max high) min low

pub text_sound : (min max : Option ℕ) (format : Option (List ℕ)) → MatchOption min ⊤ IsCount → MatchOption max ⊤ IsCount
    → IsSoundlyDrawn (plain (of_type (codes "string") (if_text format (codes "format") (if_count min (codes "minLength") (if_count max (codes "maxLength") [])))))
text_sound min max format low high =
    let counts = counts_keyed (codes "minLength") (codes "maxLength") min max refl low high in
    of_type_sound (codes "string") _ _ refl refl (text_keyed (codes "format") _ _ refl counts format)

-- a length below 2^32 fits 64 bits
pub length_is_count : (n : ℕ) → nat_le n 4294967295 ≡ true → IsCount n
length_is_count n below = let low : n ≤ 4294967295 = grind (arith, nat_tests) in (omega (arith, ints), omega (arith, ints))

pub character_sound : IsSoundlyDrawn one_character
character_sound = of_type_sound (codes "string") _ _ refl refl (counts_keyed (codes "minLength") (codes "maxLength") (Some 1) (Some 1) refl (length_is_count 1 refl) (length_is_count 1 refl))

pub list_sound : (items : Json) (min max : Option ℕ) → IsSound items → MatchOption min ⊤ IsCount → MatchOption max ⊤ IsCount
    → IsSoundlyDrawn (plain (of_type (codes "array") (member (codes "items") items ∷ if_count min (codes "minItems") (if_count max (codes "maxItems") []))))
list_sound items min max sound low high =
    let counts = counts_keyed (codes "minItems") (codes "maxItems") min max refl low high in
    of_type_sound (codes "array") _ _ refl refl (put (codes "items") items _ _ refl sound counts)

pub number_sound : (kind : IntKind) (min max : Option ℤ) → MatchOption min ⊤ IsWhole → MatchOption max ⊤ IsWhole
    → IsSoundlyDrawn (plain (of_type (codes "integer") (member (codes "format") (Words (format_of kind)) ∷ if_number min (codes "minimum") (if_number max (codes "maximum") []))))
number_sound kind min max low high =
    let greatest = number_keyed (codes "maximum") [] [] refl (none_keyed []) max high in
    let bounds = number_keyed (codes "minimum") (codes "maximum" ∷ []) _ refl greatest min low in
    of_type_sound (codes "integer") _ _ refl refl (put (codes "format") (Words (format_of kind)) _ _ refl tt bounds)

-- ---- enumerations

pub enumerated_sound : (names : List (List ℕ)) → IsSoundlyDrawn (enumerated names)
enumerated_sound [] = every_sound_nothing
  where
    every_sound_nothing : IsSoundlyDrawn (enumerated [])
    every_sound_nothing = one_sound (codes "not") (Object []) refl ((IsSound-Object []).1 (tt, tt))
enumerated_sound (name ∷ names) = of_type_sound (codes "string") (codes "enum" ∷ []) _ refl refl (enum_keyed (map Words (name ∷ names)) (texts_sound (name ∷ names)))

pub appended : {X : Type 0} (P : X → Type 0) (xs ys : List X) → AllByRecursion P xs → AllByRecursion P ys → AllByRecursion P (xs ++ ys)
appended P [] ys h k = k
appended P (x ∷ xs) ys h k = (h.0, appended P xs ys h.1 k)

plain_choice_sound : (names : List (List ℕ)) → AllByRecursion IsSound (plain_choice names)
plain_choice_sound [] = tt
plain_choice_sound (name ∷ names) = (drawn_sound (enumerated (name ∷ names)) (enumerated_sound (name ∷ names)), tt)

described_choices_sound : (ns : List Named) → AllByRecursion IsSound (map described_choice ns)
described_choices_sound [] = tt
described_choices_sound (n ∷ ns) =
    let one = described_sound n.description (enumerated (n.name ∷ [])) (enumerated_sound (n.name ∷ [])) in
    (drawn_sound (described n.description (enumerated (n.name ∷ []))) one, described_choices_sound ns)

pub choices_sound : (ns : List Named) → AllByRecursion IsSound (choices_of ns)
choices_sound ns =
    appended IsSound _ (map described_choice (filter is_described ns)) (plain_choice_sound (map listed_name (filter (λ n. not (is_described n)) ns))) (described_choices_sound (filter is_described ns))

-- a choice of sound schemas
pub choice_sound : (choices : List Json) → AllByRecursion IsSound choices → IsSoundlyDrawn (plain (member (codes "oneOf") (Items choices) ∷ []))
choice_sound choices sound = one_sound (codes "oneOf") (Items choices) refl ((IsSound-List choices).1 sound)

pub any_sound : (choices : List Json) → AllByRecursion IsSound choices → IsSoundlyDrawn (plain (member (codes "anyOf") (Items choices) ∷ []))
any_sound choices sound = one_sound (codes "anyOf") (Items choices) refl ((IsSound-List choices).1 sound)

pub enumeration_sound : (ns : List Named) → IsSoundlyDrawn (enumeration ns)
enumeration_sound ns = by_case (list_any is_described ns)
  where
    by_case : (b : Bool) → IsSoundlyDrawn (if b then plain (member (codes "oneOf") (Items (choices_of ns)) ∷ []) else enumerated (map listed_name ns))
    by_case true = choice_sound (choices_of ns) (choices_sound ns)
    by_case false = enumerated_sound (map listed_name ns)

-- ---- objects

pub map_sound : (w : Drawn) → IsSoundlyDrawn w → IsSoundlyDrawn (plain (of_type (codes "object") (member (codes "additionalProperties") (other_members w) ∷ [])))
map_sound w h = of_type_sound (codes "object") (codes "additionalProperties" ∷ []) _ refl refl (put (codes "additionalProperties") (other_members w) [] [] refl (others w.truth) (none_keyed []))
  where
    others : (truth : Option Bool) → IsSound (option_map_or Truth truth (drawn_json w))
    others None = drawn_sound w h
    others (Some truth) = tt

pub struct_sound : (properties : List Member) (required : List (List ℕ)) (deny : Bool) → HasSoundMembers properties → IsSoundlyDrawn (struct_drawn properties required deny)
struct_sound properties required deny sound =
    let names = names_keyed (codes "required") (codes "additionalProperties" ∷ []) (if_denied deny) refl (denied_keyed deny) (sorted_by same_name required) in
    let members = members_keyed (codes "properties") _ _ refl names (sorted_by name_of properties) (sorted_sound properties sound) in
    of_type_sound (codes "object") _ _ refl refl members
