-- The members that a schema gives are the only ones.
use Rattle.std.proofs.Common.{◌≡◌, ℕ, Bool, true, List, Option, Some, None, Result, Err, refl, sym, ◌∙◌, ap, ap₂}
use Rattle.std.specs.Str.{encode_utf8_all}
use Rattle.schema_values.specs.declared.schema.ObjectParts.{ObjectParts}
use Rattle.schema_values.specs.declared.schema.Schema.{Schema}
use Rattle.schema_util.specs.declared.struct_members.StructMember.{StructMember}
use Rattle.schema_util.specs.Forms.{SchemaForm, schema_form, truth, bare, reference, combination, struct, values, other}
use Rattle.schema_util.specs.References.{Names, follow, reference_in}
use Rattle.schema_util.specs.StructMembers.{flattened, behind, own_members, is_enumeration, is_no_object, Misfit, unresolved, invalid_subschema, invalid_enum, invalid_type, Gives, breaks, goes_on, adds, has_others, of_enumeration, of_no_object, GiveAll, none_left, stops, then_rest}
use Rattle.schema_util.proofs.Once.{Next}

-- a form's reference
reference_seen : (form : SchemaForm) (text : List ℕ) → reference_in form ≡ Some text → (t : List ℕ) × (form ≡ reference t) × (encode_utf8_all t ≡ text)
reference_seen (truth b) text h = absurd (cc h)
reference_seen bare text h = absurd (cc h)
reference_seen (reference t) text h = (t, refl, cc h)
reference_seen (combination s) text h = absurd (cc h)
reference_seen (struct o s) text h = absurd (cc h)
reference_seen values text h = absurd (cc h)
reference_seen other text h = absurd (cc h)

-- what is given, by the form of a schema
module _ (names : Names) (met : List (List ℕ)) (required : Bool) (end : Result (List StructMember) Misfit) where
  abbrev GivenFlattened : Option ObjectParts → Option (Bool × List Schema) → Type 0
  GivenFlattened object None = end ≡ Err invalid_subschema
  GivenFlattened object (Some (may_require, schemas)) =
      (inner : Result (List StructMember) Misfit) × GiveAll names met may_require schemas inner × (end ≡ behind (own_members required object) inner)

  abbrev GivenBy : SchemaForm → Type 0
  GivenBy (reference text) = Next names met (λ more next. Gives names more required next end) (λ why. end ≡ Err (unresolved why)) (follow names met (encode_utf8_all text))
  GivenBy (struct object subschemas) = GivenFlattened object (flattened required subschemas)
  GivenBy (combination subschemas) = end ≡ Err invalid_enum
  GivenBy values = end ≡ Err invalid_enum
  GivenBy form = end ≡ Err invalid_type

  enumeration_given : (form : SchemaForm) → is_enumeration form ≡ true → end ≡ Err invalid_enum → GivenBy form
  enumeration_given (truth b) h is = absurd (cc h)
  enumeration_given bare h is = absurd (cc h)
  enumeration_given (reference t) h is = absurd (cc h)
  enumeration_given (combination s) h is = is
  enumeration_given (struct o s) h is = absurd (cc h)
  enumeration_given values h is = is
  enumeration_given other h is = absurd (cc h)

  enumeration_only : (form : SchemaForm) → is_enumeration form ≡ true → GivenBy form → end ≡ Err invalid_enum
  enumeration_only (truth b) h is = absurd (cc h)
  enumeration_only bare h is = absurd (cc h)
  enumeration_only (reference t) h is = absurd (cc h)
  enumeration_only (combination s) h is = is
  enumeration_only (struct o s) h is = absurd (cc h)
  enumeration_only values h is = is
  enumeration_only other h is = absurd (cc h)

  no_object_given : (form : SchemaForm) → is_no_object form ≡ true → end ≡ Err invalid_type → GivenBy form
  no_object_given (truth b) h is = is
  no_object_given bare h is = is
  no_object_given (reference t) h is = absurd (cc h)
  no_object_given (combination s) h is = absurd (cc h)
  no_object_given (struct o s) h is = absurd (cc h)
  no_object_given values h is = absurd (cc h)
  no_object_given other h is = is

  no_object_only : (form : SchemaForm) → is_no_object form ≡ true → GivenBy form → end ≡ Err invalid_type
  no_object_only (truth b) h is = is
  no_object_only bare h is = is
  no_object_only (reference t) h is = absurd (cc h)
  no_object_only (combination s) h is = absurd (cc h)
  no_object_only (struct o s) h is = absurd (cc h)
  no_object_only values h is = absurd (cc h)
  no_object_only other h is = is

given : (names : Names) (met : List (List ℕ)) (required : Bool) {s : Schema} {end : Result (List StructMember) Misfit} → Gives names met required s end → GivenBy names met required end (schema_form s)
given names met required {s} (breaks text why e f) = let (t, is, same) = reference_seen (schema_form s) text e in rw (is, same, f) refl
given names met required {s} (goes_on text name next end e f more) = let (t, is, same) = reference_seen (schema_form s) text e in rw (is, same, f) more
given names met required {s} (adds object subschemas may_require schemas end form found all) = rw (form, found) (end, all, refl)
given names met required {s} (has_others object subschemas form found) = rw (form, found) refl
given names met required {s} (of_enumeration e) = enumeration_given names met required _ (schema_form s) e refl
given names met required {s} (of_no_object e) = no_object_given names met required _ (schema_form s) e refl

mutual
  pub gives_once : (names : Names) {met : List (List ℕ)} {required : Bool} {s : Schema} {one two : Result (List StructMember) Misfit}
      → Gives names met required s one → Gives names met required s two → one ≡ two
  gives_once names {met} {required} {s} (breaks text why e f) second =
      let (t, is, same) = reference_seen (schema_form s) text e in sym (rw (is, same, f) at (given names met required second))
  gives_once names {met} {required} {s} (goes_on text name next end e f more) second =
      let (t, is, same) = reference_seen (schema_form s) text e in gives_once names more (rw (is, same, f) at (given names met required second))
  gives_once names {met} {required} {s} (adds object subschemas may_require schemas end form found all) second =
      let (inner, rest, is) = rw (form, found) at (given names met required second) in
      ap (behind (own_members required object)) (all_give_once names all rest) ∙ sym is
  gives_once names {met} {required} {s} (has_others object subschemas form found) second = sym (rw (form, found) at (given names met required second))
  gives_once names {met} {required} {s} (of_enumeration e) second = sym (enumeration_only names met required _ (schema_form s) e (given names met required second))
  gives_once names {met} {required} {s} (of_no_object e) second = sym (no_object_only names met required _ (schema_form s) e (given names met required second))

  all_give_once : (names : Names) {met : List (List ℕ)} {required : Bool} {schemas : List Schema} {one two : Result (List StructMember) Misfit}
      → GiveAll names met required schemas one → GiveAll names met required schemas two → one ≡ two
  all_give_once names none_left none_left = refl
  all_give_once names (stops why first) (stops why2 second) = gives_once names first second
  all_give_once names (stops why first) (then_rest members end second rest) = let q = gives_once names first second in absurd (cc q)
  all_give_once names (then_rest members end first rest) (stops why second) = let q = gives_once names first second in absurd (cc q)
  all_give_once names (then_rest members end first rest) (then_rest members2 end2 second rest2) =
      let q = gives_once names first second in
      let same : members ≡ members2 = cc q in ap₂ behind same (all_give_once names rest rest2)
