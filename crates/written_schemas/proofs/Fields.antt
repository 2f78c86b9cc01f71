-- A struct's schema admits an object exactly where the fields denote trees and no name is denied.
use Rattle.std.proofs.Common.{◌≡◌, ℕ, Bool, true, false, ◌&&◌, ◌||◌, not, List, [], ◌∷◌, map, Option, Some, None, is_some, is_ok, bytes_eq, cond, refl, sym, ◌∙◌, ap, MatchOption}
use Rattle.std.proofs.Math.Bool.{and-true, and_assoc, or-false}
use Rattle.std.specs.List.{list_all, AllByRecursion}
use Rattle.std.specs.Prelude.{◌≢◌, Contains, ⊤}
use Rattle.std.proofs.lemmas.Slice.Eq.{bytes_eq-Decides}
use Rattle.schema_values.specs.declared.json_value.Json.{Json, Bool as Truth}
use Rattle.schema_values.specs.declared.json_value.Json.TheOpen.{Json-F}
use Rattle.schema_values.specs.declared.json_value.Member.{Member}
use Rattle.schema_values.specs.Get.{first_named}
use Rattle.schema_values.specs.Member.{name_of}
use Rattle.schema_values.specs.Sound.{AreDistinct}
use Rattle.openapi_values.specs.Levels.{has_member}
use Rattle.openapi_values.specs.Options.{is_none_or}
use Rattle.openapi_values.specs.Rows.{property_admitted}
use Rattle.descriptors.specs.declared.desc.Desc.{Desc}
use Rattle.descriptors.specs.declared.desc.Field.{Field}
use Rattle.descriptors.specs.declared.desc.Presence.{Presence}
use Rattle.descriptors.specs.declared.desc.Presence.TheVariants.{Required, Nullable, Skipped, Default}
use Rattle.descriptors.specs.declared.table.Definition.{Definition}
use Rattle.descriptors.specs.Definitions.{field_name}
use Rattle.typed_values.specs.Denotes.{Told, value_named, is_declared, told, by_presence, if_absent, if_present}
use Rattle.schema_values.specs.Order.{sorted_by, same_name}
use Rattle.typed_values.specs.Rows.{value_denotes, told_field, told_fields, told_struct}
use Rattle.schema_values.proofs.CallerLemmas.{contains_first, contains_later}
use Rattle.descriptors.proofs.CallerLemmas.{other_name}
use Rattle.typed_values.proofs.CallerLemmas.{ok_below, ok_just, ok_all, ok_struct}
use Rattle.openapi_values.proofs.CallerLemmas.{all_same}
use Rattle.written_schemas.proofs.Forms.{field_property, names_required}
use Rattle.written_schemas.proofs.Structs.{is_struct_of, other_passes}
use Rattle.written_schemas.proofs.Sorted.{all_sorted, any_sorted, first_sorted, absent, and_swapped}

no_value : (name : List ℕ) (ms : List Member) → AllByRecursion (λ other. name ≢ other) (map name_of ms) → value_named ms name ≡ None
no_value name [] h = refl
no_value name (m ∷ ms) h = rw (other_name m.name name (λ e. h.0 (sym e))) (no_value name ms h.1)

module _ (smaller : Json → Json → Bool) where
  -- what a property asks of the member of its name
  abbrev asks : Member → List Member → Bool
  asks p ms = is_none_or (value_named ms p.name) (λ v. smaller v p.value)

  one_member : (b : Bool) (p m : Member) (ps ms : List Member) → bytes_eq m.name p.name ≡ b → first_named p.name ps ≡ None → AllByRecursion (λ other. m.name ≢ other) (map name_of ms)
      → list_all (property_admitted smaller (p ∷ ps)) ms ≡ (asks p ms && list_all (property_admitted smaller ps) ms)
      → (is_none_or (cond b (Some p.value) (first_named m.name ps)) (smaller m.value) && list_all (property_admitted smaller (p ∷ ps)) ms)
      ≡ (is_none_or (cond b (Some m.value) (value_named ms p.name)) (λ v. smaller v p.value) && (property_admitted smaller ps m && list_all (property_admitted smaller ps) ms))
  one_member true p m ps ms e none new later =
      let same : m.name ≡ p.name = (bytes_eq-Decides m.name p.name).0 e in
      let gone : value_named ms p.name ≡ None = ap (value_named ms) (sym same) ∙ no_value m.name ms new in
      let unknown : first_named m.name ps ≡ None = ap (λ n. first_named n ps) same ∙ none in
      ap (λ (b : Bool). smaller m.value p.value && b) (later ∙ ap (λ (o : Option Json). is_none_or o (λ v. smaller v p.value) && list_all (property_admitted smaller ps) ms) gone
      ∙ sym (ap (λ (o : Option Json). is_none_or o (smaller m.value) && list_all (property_admitted smaller ps) ms) unknown))
  one_member false p m ps ms e none new later =
      ap (λ (b : Bool). property_admitted smaller ps m && b) later ∙ and_swapped (property_admitted smaller ps m) (asks p ms) (list_all (property_admitted smaller ps) ms)

  one_property : (p : Member) (ps ms : List Member) → first_named p.name ps ≡ None → AreDistinct (map name_of ms)
      → list_all (property_admitted smaller (p ∷ ps)) ms ≡ (asks p ms && list_all (property_admitted smaller ps) ms)
  one_property p ps [] none distinct = refl
  one_property p ps (m ∷ ms) none distinct = one_member (bytes_eq m.name p.name) p m ps ms refl none distinct.0 (one_property p ps ms none distinct.1)

has_by : (b : Bool) (v : Json) (o : Option Json) (rest : Bool) → rest ≡ is_some o → (b || rest) ≡ is_some (cond b (Some v) o)
has_by true v o rest e = refl
has_by false v o rest e = e

has_value : (name : List ℕ) (ms : List Member) → has_member name ms ≡ is_some (value_named ms name)
has_value name [] = refl
has_value name (m ∷ ms) = has_by (bytes_eq m.name name) m.value (value_named ms name) (has_member name ms) (has_value name ms)

abbrev if_required : Presence → Bool → Bool
if_required Required b = b
if_required Nullable b = true
if_required Skipped b = true
if_required (Default tree) b = true

-- a field that is absent, and one that is there
absent_row : (p : Presence) (name : List ℕ) → if_required p false ≡ is_ok (if_absent p name)
absent_row Required name = refl
absent_row Nullable name = refl
absent_row Skipped name = refl
absent_row (Default tree) name = refl

present_row : (p : Presence) (admitted : Bool) (o : Told) → admitted ≡ is_ok o → (admitted && if_required p true) ≡ is_ok (if_present p o)
present_row Required admitted o same = and-true admitted ∙ same
present_row Nullable admitted o same = and-true admitted ∙ same
present_row Skipped admitted o same = and-true admitted ∙ same ∙ sym (ok_just o)
present_row (Default tree) admitted o same = and-true admitted ∙ same

module _ (table : List Definition) (whole : Desc) (smaller : Json → Json → Bool) where
  required_row : (p : Presence) (q : List ℕ → Bool) (f : Field) (fs : List Field) → f.presence ≡ p
      → list_all q (names_required table (f ∷ fs)) ≡ (if_required p (q f.name) && list_all q (names_required table fs))
  required_row Required q f fs e = rw e refl
  required_row Nullable q f fs e = rw e refl
  required_row Skipped q f fs e = rw e refl
  required_row (Default tree) q f fs e = rw e refl

  -- each field's schema admits the value exactly where it denotes a tree
  abbrev pub AgreesOn : List Field → Json → Type 0
  AgreesOn fs v = (f : Field) → Contains fs f → smaller v (field_property table f).value ≡ is_ok (told table whole v f.desc)

  found_agrees : (fs : List Field) (name : List ℕ) (ms : List Member) → AllByRecursion (λ m. AgreesOn fs m.value) ms → MatchOption (value_named ms name) ⊤ (AgreesOn fs)
  found_agrees fs name [] h = tt
  found_agrees fs name (m ∷ ms) h = by_name (bytes_eq m.name name) (value_named ms name) (found_agrees fs name ms h.1)
    where
      by_name : (b : Bool) (o : Option Json) → MatchOption o ⊤ (AgreesOn fs) → MatchOption (cond b (Some m.value) o) ⊤ (AgreesOn fs)
      by_name true o k = h.0
      by_name false o k = k

  field_row : (f : Field) (fs : List Field) (o : Option Json) → MatchOption o ⊤ (AgreesOn (f ∷ fs))
      → (is_none_or o (λ v. smaller v (field_property table f).value) && if_required f.presence (is_some o)) ≡ is_ok (by_presence f (value_denotes table whole f.desc o))
  field_row f fs None h = absent_row f.presence f.name
  field_row f fs (Some v) h = present_row f.presence (smaller v (field_property table f).value) _ (h f (contains_first f fs) ∙ sym (ok_below _ (told table whole v f.desc)))

  both_rows : (v p r names : Bool) → ((v && p) && (r && names)) ≡ ((v && r) && (p && names))
  both_rows true true r names = refl
  both_rows true false true names = refl
  both_rows true false false names = refl
  both_rows false p r names = refl

  later_agree : (f : Field) (fs : List Field) (ms : List Member) → AllByRecursion (λ m. AgreesOn (f ∷ fs) m.value) ms → AllByRecursion (λ m. AgreesOn fs m.value) ms
  later_agree f fs [] h = tt
  later_agree f fs (m ∷ ms) h = (λ g c. h.0 g (contains_later f fs g c), later_agree f fs ms h.1)

  new_property : (name : List ℕ) (fs : List Field) → AllByRecursion (λ other. name ≢ other) (map field_name fs) → AllByRecursion (λ other. name ≢ other) (map name_of (map (field_property table) fs))
  new_property name [] h = tt
  new_property name (f ∷ fs) h = (h.0, new_property name fs h.1)

  fields_agree : (fs : List Field) (ms : List Member) → AreDistinct (map field_name fs) → AreDistinct (map name_of ms) → AllByRecursion (λ m. AgreesOn fs m.value) ms
      → (list_all (property_admitted smaller (map (field_property table) fs)) ms && list_all (λ name. has_member name ms) (names_required table fs)) ≡ list_all (λ f. is_ok (told_field table whole ms f)) fs
  fields_agree [] ms h k agree = none_asked ms
    where
      none_asked : (ms : List Member) → (list_all (property_admitted smaller []) ms && true) ≡ true
      none_asked [] = refl
      none_asked (m ∷ ms) = none_asked ms
  fields_agree (f ∷ fs) ms h k agree =
      let rest = list_all (property_admitted smaller (map (field_property table) fs)) ms in
      let names = list_all (λ name. has_member name ms) (names_required table fs) in
      ap (λ (b : Bool). b && list_all (λ name. has_member name ms) (names_required table (f ∷ fs))) (one_property smaller (field_property table f) (map (field_property table) fs) ms (absent f.name (map (field_property table) fs) (new_property f.name fs h.0)) k)
      ∙ ap (λ (b : Bool). (asks smaller (field_property table f) ms && rest) && b) (required_row f.presence (λ name. has_member name ms) f fs refl ∙ ap (λ (b : Bool). if_required f.presence b && names) (has_value f.name ms))
      ∙ both_rows (asks smaller (field_property table f) ms) rest (if_required f.presence (is_some (value_named ms f.name))) names
      ∙ ap (λ (b : Bool). b && (rest && names)) (field_row f fs (value_named ms f.name) (found_agrees (f ∷ fs) f.name ms agree))
      ∙ ap (λ (b : Bool). is_ok (told_field table whole ms f) && b) (fields_agree fs ms h.1 k (later_agree f fs ms agree))

  declared_is : (fs : List Field) (name : List ℕ) → has_member name (map (field_property table) fs) ≡ is_declared fs name
  declared_is [] name = refl
  declared_is (f ∷ fs) name = by_name (bytes_eq f.name name) (declared_is fs name)
    where
      by_name : (b : Bool) → has_member name (map (field_property table) fs) ≡ is_declared fs name → (b || has_member name (map (field_property table) fs)) ≡ cond b true (is_declared fs name)
      by_name true e = refl
      by_name false e = e

  pub struct_agrees : (fs : List Field) (deny : Bool) (ms : List Member) → AreDistinct (map field_name fs) → AreDistinct (map name_of ms) → AllByRecursion (λ m. AgreesOn fs m.value) ms
      → ((v : Json) → smaller v (Truth false) ≡ false)
      → is_struct_of smaller (sorted_by name_of (map (field_property table) fs)) (sorted_by same_name (names_required table fs)) deny (Json-F.Object ms) ≡ is_ok (told_struct table whole fs deny ms)
  struct_agrees fs deny ms h k agree nothing =
      let properties = sorted_by name_of (map (field_property table) fs) in
      let names = sorted_by same_name (names_required table fs) in
      ap (λ (b : Bool). b && (list_all (λ name. has_member name ms) names && (not deny || list_all (other_passes smaller properties) ms)))
      (all_same (property_admitted smaller properties) (property_admitted smaller (map (field_property table) fs)) (λ m. ap (λ (o : Option Json). is_none_or o (smaller m.value)) (first_sorted m.name (map (field_property table) fs))) ms)
      ∙ ap (λ (b : Bool). list_all (property_admitted smaller (map (field_property table) fs)) ms && (b && (not deny || list_all (other_passes smaller properties) ms))) (all_sorted same_name (λ name. has_member name ms) (names_required table fs))
      ∙ sym (and_assoc (list_all (property_admitted smaller (map (field_property table) fs)) ms) (list_all (λ name. has_member name ms) (names_required table fs)) (not deny || list_all (other_passes smaller properties) ms))
      ∙ ap (λ (b : Bool). b && (not deny || list_all (other_passes smaller properties) ms)) (fields_agree fs ms h k agree ∙ sym (ok_all (λ i f. told_field table whole ms f) (λ f. is_ok (told_field table whole ms f)) (λ i f. refl) 0 fs))
      ∙ ap (λ (b : Bool). is_ok (told_fields table whole ms fs) && (not deny || b))
      (all_same (other_passes smaller properties) (λ m. is_declared fs m.name) (λ m.
      ap (λ (b : Bool). has_member m.name properties || b) (nothing m.value) ∙ or-false (has_member m.name properties) ∙ any_sorted name_of (λ p. bytes_eq p.name m.name) (map (field_property table) fs) ∙ declared_is fs m.name) ms)
      ∙ sym (ok_struct deny fs ms (told_fields table whole ms fs))
