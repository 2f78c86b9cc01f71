-- The members of a schema object have distinct names.
use Rattle.std.proofs.Common.{◌≡◌, ℕ, ℤ, pos, Bool, true, false, List, [], ◌∷◌, ◌++◌, map, Option, Some, None, MatchOption, codes, refl, sym, ◌∙◌, ap, subst}
use Rattle.std.specs.List.{list_all, AllByRecursion}
use Rattle.std.specs.Prelude.{⊤}
use Rattle.std.proofs.lemmas.Bool.{and_parts}
use Rattle.schema_values.specs.declared.json_value.Json.{Json, Bool as Truth, Int as Number, Text as Words, List as Items, Object}
use Rattle.schema_values.specs.declared.json_value.Member.{Member}
use Rattle.schema_values.specs.Member.{member}
use Rattle.schema_values.specs.Sound.{IsSound, IsWhole}
use Rattle.schema_values.specs.SoundMembers.{HasSoundMembers}
use Rattle.schema_values.proofs.CallerLemmas.{IsSound-List, IsSound-Object}
use Rattle.typed_values.specs.SchemaTable.{Drawn, Remarks, annotated, annotations, described, defaulted, drawn_json, if_count, if_denied, if_members, if_names, if_number, if_text, if_true, if_value}
use Rattle.openapi_values.specs.SoundContents.{IsCount}
use Rattle.openapi_values.proofs.CallerLemmas.{IsKeyed, is_new, none_keyed, passed, put}

-- texts are sound
pub texts_sound : (texts : List (List ℕ)) → AllByRecursion IsSound (map Words texts)
texts_sound [] = tt
texts_sound (text ∷ texts) = (tt, texts_sound texts)

-- ---- members that stand only where there is something to say

module _ (name : List ℕ) (names : List (List ℕ)) (ms : List Member) (new : is_new name names ≡ true) (h : IsKeyed names ms) where
  pub true_keyed : (b : Bool) → IsKeyed (name ∷ names) (if_true b name ms)
  true_keyed true = put name (Truth true) names ms new tt h
  true_keyed false = passed name names ms h

  pub text_keyed : (text : Option (List ℕ)) → IsKeyed (name ∷ names) (if_text text name ms)
  text_keyed (Some text) = put name (Words text) names ms new tt h
  text_keyed None = passed name names ms h

  pub value_keyed : (value : Option Json) → MatchOption value ⊤ IsSound → IsKeyed (name ∷ names) (if_value value name ms)
  value_keyed (Some value) sound = put name value names ms new sound h
  value_keyed None sound = passed name names ms h

  pub number_keyed : (number : Option ℤ) → MatchOption number ⊤ IsWhole → IsKeyed (name ∷ names) (if_number number name ms)
  number_keyed (Some number) whole = put name (Number number) names ms new whole h
  number_keyed None whole = passed name names ms h

  pub count_keyed : (count : Option ℕ) → MatchOption count ⊤ IsCount → IsKeyed (name ∷ names) (if_count count name ms)
  count_keyed (Some count) whole = put name (Number (pos count)) names ms new whole h
  count_keyed None whole = passed name names ms h

  pub members_keyed : (members : List Member) → HasSoundMembers members → IsKeyed (name ∷ names) (if_members members name ms)
  members_keyed [] sound = passed name names ms h
  members_keyed (m ∷ members) sound = put name (Object (m ∷ members)) names ms new ((IsSound-Object (m ∷ members)).1 sound) h

  pub names_keyed : (texts : List (List ℕ)) → IsKeyed (name ∷ names) (if_names texts name ms)
  names_keyed [] = passed name names ms h
  names_keyed (text ∷ texts) = put name (Items (map Words (text ∷ texts))) names ms new ((IsSound-List (map Words (text ∷ texts))).1 (texts_sound (text ∷ texts))) h

pub denied_keyed : (deny : Bool) → IsKeyed (codes "additionalProperties" ∷ []) (if_denied deny)
denied_keyed true = put (codes "additionalProperties") (Truth false) [] [] refl tt (none_keyed [])
denied_keyed false = none_keyed (codes "additionalProperties" ∷ [])

-- ---- a schema on the way

-- the names of annotations
abbrev pub notes : List (List ℕ)
notes = codes "nullable" ∷ codes "title" ∷ codes "description" ∷ codes "default" ∷ []

-- the members of a schema are sound and none is named as an annotation, and so is its default
pub record IsSoundlyDrawn (w : Drawn) : Type 0 where
  pub names : List (List ℕ)
  pub keyed : IsKeyed names w.members
  pub apart : list_all (λ note. is_new note names) notes ≡ true
  pub default_sound : MatchOption w.remarks.default ⊤ IsSound

-- annotations, and then other members
abbrev noted : Bool → Option (List ℕ) → Remarks → List Member → List Member
noted n t r ms = if_true n (codes "nullable") (if_text t (codes "title") (if_text r.description (codes "description") (if_value r.default (codes "default") ms)))

value_before : (o : Option Json) (name : List ℕ) (ms rest : List Member) → if_value o name ms ++ rest ≡ if_value o name (ms ++ rest)
value_before (Some value) name ms rest = refl
value_before None name ms rest = refl

text_before : (o : Option (List ℕ)) (name : List ℕ) (ms rest : List Member) → if_text o name ms ++ rest ≡ if_text o name (ms ++ rest)
text_before (Some text) name ms rest = refl
text_before None name ms rest = refl

true_before : (b : Bool) (name : List ℕ) (ms rest : List Member) → if_true b name ms ++ rest ≡ if_true b name (ms ++ rest)
true_before true name ms rest = refl
true_before false name ms rest = refl

noted_is : (n : Bool) (t : Option (List ℕ)) (r : Remarks) (ms : List Member) → annotations n t r ++ ms ≡ noted n t r ms
noted_is n t r ms =
    let default = if_value r.default (codes "default") [] in
    let description = if_text r.description (codes "description") default in
    true_before n (codes "nullable") (if_text t (codes "title") description) ms
    ∙ ap (if_true n (codes "nullable")) (text_before t (codes "title") description ms
    ∙ ap (if_text t (codes "title")) (text_before r.description (codes "description") default ms
    ∙ ap (if_text r.description (codes "description")) (value_before r.default (codes "default") [] ms)))

module _ (n : Bool) (t : Option (List ℕ)) (r : Remarks) (default_sound : MatchOption r.default ⊤ IsSound) where
  noted_sound : (names : List (List ℕ)) (ms : List Member) → IsKeyed names ms → list_all (λ note. is_new note names) notes ≡ true → HasSoundMembers (annotations n t r ++ ms)
  noted_sound names ms h apart =
      let (nullable, others) = and_parts (is_new (codes "nullable") names) _ apart in
      let (title, more) = and_parts (is_new (codes "title") names) _ others in
      let (description, last) = and_parts (is_new (codes "description") names) _ more in
      let (default, none) = and_parts (is_new (codes "default") names) _ last in
      let defaults = value_keyed (codes "default") names ms default h r.default default_sound in
      let descriptions = text_keyed (codes "description") _ _ description defaults r.description in
      let titles = text_keyed (codes "title") _ _ title descriptions t in
      subst HasSoundMembers (sym (noted_is n t r ms)) (true_keyed (codes "nullable") _ _ nullable titles n).sound

annotated_sound : (before : List Member) (is_reference : Bool) (ms : List Member) → HasSoundMembers ms → HasSoundMembers (before ++ ms) → HasSoundMembers (before ++ member (codes "allOf") (Items (Object ms ∷ [])) ∷ [])
    → HasSoundMembers (annotated before is_reference ms)
annotated_sound [] is_reference ms alone beside around = alone
annotated_sound (note ∷ before) true ms alone beside around = around
annotated_sound (note ∷ before) false ms alone beside around = beside

pub drawn_sound : (w : Drawn) → IsSoundlyDrawn w → IsSound (drawn_json w)
drawn_sound w h =
    let alone : HasSoundMembers w.members = h.keyed.sound in
    let items : IsSound (Items (Object w.members ∷ [])) = (IsSound-List (Object w.members ∷ [])).1 ((IsSound-Object w.members).1 alone, tt) in
    let all_of = put (codes "allOf") (Items (Object w.members ∷ [])) [] [] refl items (none_keyed []) in
    (IsSound-Object (annotated (annotations w.nullable w.title w.remarks) w.is_reference w.members)).1
    (annotated_sound (annotations w.nullable w.title w.remarks) w.is_reference w.members alone
    (noted_sound w.nullable w.title w.remarks h.default_sound h.names w.members h.keyed h.apart)
    (noted_sound w.nullable w.title w.remarks h.default_sound (codes "allOf" ∷ []) _ all_of refl))

-- ---- annotations keep a schema sound

pub described_sound : (description : Option (List ℕ)) (w : Drawn) → IsSoundlyDrawn w → IsSoundlyDrawn (described description w)
described_sound None w h = h
described_sound (Some text) w h = record { names = h.names; keyed = h.keyed; apart = h.apart; default_sound = h.default_sound }

pub defaulted_sound : (default : Option Json) (w : Drawn) → MatchOption default ⊤ IsSound → IsSoundlyDrawn w → IsSoundlyDrawn (defaulted default w)
defaulted_sound None w sound h = h
defaulted_sound (Some json) w sound h = record { names = h.names; keyed = h.keyed; apart = h.apart; default_sound = sound }

pub null_sound : (w : Drawn) → IsSoundlyDrawn w → IsSoundlyDrawn (record w { nullable = true; truth = None })
null_sound w h = record { names = h.names; keyed = h.keyed; apart = h.apart; default_sound = h.default_sound }

pub titled_sound : (title : List ℕ) (w : Drawn) → IsSoundlyDrawn w → IsSoundlyDrawn (record w { title = Some title })
titled_sound title w h = record { names = h.names; keyed = h.keyed; apart = h.apart; default_sound = h.default_sound }
