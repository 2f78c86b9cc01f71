-- What a schema comes to along references has its meaning.
use Rattle.std.proofs.Common.{◌≡◌, ◌↔◌, ℕ, zero, suc, ◌+◌, ◌≤◌, Bool, true, false, cond, List, [], ◌++◌, drop, length, Option, Some, None, Ok, Err, Result, IsTrue, nat_eq, refl, sym, ◌∙◌, ap, subst, arith}
use Rattle.std.specs.List.{starts_with}
use Rattle.std.specs.Option.{option_map_or}
use Rattle.std.specs.Prelude.{option_and_then}
use Rattle.std.specs.Str.{chars, encode_utf8_all}
use Rattle.std.proofs.Math.Seq.{drop-append_seam}
use Rattle.std.proofs.lemmas.Bool.Decides.{Decides-eqb}
use Rattle.std.proofs.lemmas.Slice.Eq.{starts_is}
use Rattle.std.proofs.lemmas.Str.{chars-append, chars-IsAscii, encodes-append, encodes-IsAscii, IsUtf8-from_ascii}
use Rattle.schema_values.specs.declared.json_value.Json.{Json, out-Json}
use Rattle.schema_values.specs.declared.schema.InstanceTypes.{InstanceTypes}
use Rattle.schema_values.specs.declared.schema.InstanceTypes.TheVariants.{Single, Several}
use Rattle.schema_values.specs.declared.schema.Items.TheOpen.{Schema-F}
use Rattle.schema_values.specs.declared.schema.ObjectParts.{ObjectParts}
use Rattle.schema_values.specs.declared.schema.Schema.{Schema, out-Schema}
use Rattle.schema_values.specs.declared.schema.SchemaObject.{SchemaObject, out-SchemaObject}
use Rattle.schema_values.specs.declared.schema.Subschemas.{Subschemas}
use Rattle.schema_values.proofs.CallerLemmas.{chars-encoded, IsAscii-from_test}
use Rattle.request_words.specs.Prefixes.{after}
use Rattle.openapi_values.specs.Lookup.{name_in as name_of}
use Rattle.openapi_values.specs.Options.{is_some_and}
use Rattle.openapi_values.specs.Room.{room as written_room}
use Rattle.openapi_values.specs.SchemaJson.{schema_json}
use Rattle.request_words.proofs.CallerLemmas.{after_prefix}
use Rattle.schema_util.specs.Forms.{SchemaForm, truth, form_of, by_parts, is_limited, other}
use Rattle.schema_util.specs.References.{definitions_prefix, name_in, follow, follow_name, is_met, look_up, cycle, reference_in, reference_of, ComesTo, stays, breaks, goes_on, Names, Unresolved}
use Rattle.schema_util.proofs.CallerLemmas.{followed}
use Rattle.schema_meaning.specs.Accepted.{IsAccepted}
use Rattle.schema_meaning.specs.Asked.{parts_admit}
use Rattle.schema_meaning.specs.Count.{room}
use Rattle.schema_meaning.specs.Definitions.{NamedSchemas, schema_named}
use Rattle.schema_meaning.specs.Forms.{SchemaLevel, level_by_form}
use Rattle.schema_meaning.specs.Meaning.{object_admits, admits_within, SchemaAdmits}
use Rattle.schema_meaning.specs.Reached.{LeadsTo, referred, IsReached, itself, same_value, smaller_value}
use Rattle.schema_meaning.specs.Resolved.{HasTheSame}
use Rattle.schema_meaning.proofs.Agreement.{agree}
use Rattle.schema_meaning.proofs.Chains.{Rests}
use Rattle.schema_meaning.proofs.OwnDocument.{document_of, defines_all}
use Rattle.schema_meaning.proofs.Steps.{smaller_admits, admits-suc}
use Rattle.schema_meaning.proofs.Whole.{rests_written, rests, meant_steps}

-- ---- references in bytes and in characters

-- where the bytes of some characters refer to a name, so do the characters
encoded_name : (cs name : List ℕ) → name_in (encode_utf8_all cs) ≡ Some name → (rest : List ℕ) × (name_of (Some cs) ≡ Some rest) × (encode_utf8_all rest ≡ name)
encoded_name cs name h = by_test (starts_with nat_eq bytes definitions_prefix) refl h
  where
    bytes : List ℕ
    bytes = encode_utf8_all cs

    by_test : (b : Bool) → starts_with nat_eq bytes definitions_prefix ≡ b → cond b (Some (drop (length definitions_prefix) bytes)) None ≡ Some name
        → (rest : List ℕ) × (name_of (Some cs) ≡ Some rest) × (encode_utf8_all rest ≡ name)
    by_test false e h = absurd (cc h)
    by_test true e h =
        let p = definitions_prefix in
        let rest = drop (length p) bytes in
        let ascii = IsAscii-from_test p refl in
        let split : bytes ≡ p ++ rest = (starts_is Decides-eqb bytes p _ refl).0 e in
        let letters : cs ≡ p ++ chars rest = sym (chars-encoded cs) ∙ ap chars split ∙ chars-append p rest (IsUtf8-from_ascii p ascii) ∙ ap (λ q. q ++ chars rest) (chars-IsAscii p ascii) in
        let again : p ++ encode_utf8_all (chars rest) ≡ p ++ rest = ap (λ q. q ++ encode_utf8_all (chars rest)) (sym (encodes-IsAscii p ascii)) ∙ sym (encodes-append p (chars rest)) ∙ sym (ap encode_utf8_all letters) ∙ split in
        let back : encode_utf8_all (chars rest) ≡ rest = sym (drop-append_seam p (encode_utf8_all (chars rest))) ∙ ap (drop (length p)) again ∙ drop-append_seam p rest in
        (chars rest, ap (after p) letters ∙ after_prefix p (chars rest), back ∙ cc h)

-- a form that is a reference has it as its reference
parts_refer : (t : Option InstanceTypes) (vs : Option (List Json)) (u : Option Subschemas) (o : Option ObjectParts) (r : Option (List ℕ)) (text : List ℕ)
    → reference_in (by_parts t vs u o r) ≡ Some text → (cs : List ℕ) × (r ≡ Some cs) × (encode_utf8_all cs ≡ text)
parts_refer None None None None (Some cs) text h = (cs, refl, cc h)
parts_refer None None None None None text h = absurd (cc h)
parts_refer None None None (Some o) r text h = absurd (cc h)
parts_refer None None (Some u) None None text h = absurd (cc h)
parts_refer None None (Some u) None (Some cs) text h = absurd (cc h)
parts_refer None None (Some u) (Some o) r text h = absurd (cc h)
parts_refer None (Some vs) None None None text h = absurd (cc h)
parts_refer None (Some vs) None None (Some cs) text h = absurd (cc h)
parts_refer None (Some vs) None (Some o) r text h = absurd (cc h)
parts_refer None (Some vs) (Some u) o r text h = absurd (cc h)
parts_refer (Some (Single k)) None u o None text h = absurd (cc h)
parts_refer (Some (Single k)) None u o (Some cs) text h = absurd (cc h)
parts_refer (Some (Single k)) (Some vs) None None None text h = absurd (cc h)
parts_refer (Some (Single k)) (Some vs) None None (Some cs) text h = absurd (cc h)
parts_refer (Some (Single k)) (Some vs) None (Some o) r text h = absurd (cc h)
parts_refer (Some (Single k)) (Some vs) (Some u) o r text h = absurd (cc h)
parts_refer (Some (Several ks)) None u o r text h = absurd (cc h)
parts_refer (Some (Several ks)) (Some vs) None None None text h = absurd (cc h)
parts_refer (Some (Several ks)) (Some vs) None None (Some cs) text h = absurd (cc h)
parts_refer (Some (Several ks)) (Some vs) None (Some o) r text h = absurd (cc h)
parts_refer (Some (Several ks)) (Some vs) (Some u) o r text h = absurd (cc h)

object_refers : (o : SchemaObject) (text : List ℕ) → reference_in (form_of o) ≡ Some text → (cs : List ℕ) × ((out-SchemaObject o).reference ≡ Some cs) × (encode_utf8_all cs ≡ text)
object_refers o text h = by_limit (is_limited o) h
  where
    parts : SchemaForm
    parts = by_parts (out-SchemaObject o).instance_type (out-SchemaObject o).enum_values (out-SchemaObject o).subschemas (out-SchemaObject o).object (out-SchemaObject o).reference

    by_limit : (b : Bool) → reference_in (cond b other parts) ≡ Some text → (cs : List ℕ) × ((out-SchemaObject o).reference ≡ Some cs) × (encode_utf8_all cs ≡ text)
    by_limit true h = absurd (cc h)
    by_limit false h = parts_refer (out-SchemaObject o).instance_type (out-SchemaObject o).enum_values (out-SchemaObject o).subschemas (out-SchemaObject o).object (out-SchemaObject o).reference text h

-- a schema object, the characters of its reference, and that their bytes are the text
record RefersTo (s : Schema) (text : List ℕ) : Type 0 where
  object : SchemaObject
  letters : List ℕ
  of_object : out-Schema s ≡ Schema-F.Object object
  reference_is : (out-SchemaObject object).reference ≡ Some letters
  spelled : encode_utf8_all letters ≡ text

schema_refers : (s : Schema) (text : List ℕ) → reference_of s ≡ Some text → RefersTo s text
schema_refers s text h = by_level (out-Schema s) refl h
  where
    by_level : (z : SchemaLevel) → out-Schema s ≡ z → reference_in (elim z [ Schema-F.Bool b ↦ truth b | Schema-F.Object o ↦ form_of o ]) ≡ Some text → RefersTo s text
    by_level (Schema-F.Bool b) e h = absurd (cc h)
    by_level (Schema-F.Object o) e h = let (cs, is, bytes) = object_refers o text h in record { object = o; letters = cs; of_object = e; reference_is = is; spelled = bytes }

-- the name that a step along a reference goes to is that of the reference
named_by : (names : Names) (met : List (List ℕ)) (text name : List ℕ) (next : Schema) → follow names met text ≡ Ok (name, next) → name_in text ≡ Some name
named_by names met text name next h = by_name (name_in text) refl h
  where
    looked : (one : List ℕ) (o : Option Schema) → look_up one o ≡ Ok (name, next) → one ≡ name
    looked one None h = absurd (cc h)
    looked one (Some schema) h = let both : (one, schema) ≡ (name, next) = cc h in ap (λ (p : List ℕ × Schema). p.0) both

    unmet : (one : List ℕ) (b : Bool) → cond b (Err (cycle one)) (look_up one (names one)) ≡ Ok (name, next) → one ≡ name
    unmet one true h = absurd (cc h)
    unmet one false h = looked one (names one) h

    by_name : (o : Option (List ℕ)) → name_in text ≡ o → follow_name names met text o ≡ Ok (name, next) → name_in text ≡ Some name
    by_name None e h = absurd (cc h)
    by_name (Some one) e h = e ∙ ap Some (unmet one (is_met met one) h)

-- ---- what is reached

reached_further : (definitions : NamedSchemas) (whole s t : Schema) → IsReached definitions whole s → IsReached definitions s t → IsReached definitions whole t
reached_further definitions whole s t i itself = i
reached_further definitions whole s t i (same_value a b j l) = same_value a t (reached_further definitions whole s a i j) l
reached_further definitions whole s t i (smaller_value a b j c) = smaller_value a t (reached_further definitions whole s a i j) c

module _ (names : Names) (definitions : NamedSchemas) (same : HasTheSame names definitions) where
  -- what a step along a reference finds stands under its name in characters
  found_named : (met : List (List ℕ)) (s : Schema) (text name : List ℕ) (next : Schema) → (refers : RefersTo s text) → follow names met text ≡ Ok (name, next)
      → (n : List ℕ) × (name_of (Some refers.letters) ≡ Some n) × (schema_named definitions n ≡ Some next)
  found_named met s text name next refers h =
      let (n, is, bytes) = encoded_name refers.letters name (ap name_in refers.spelled ∙ named_by names met text name next h) in
      (n, is, sym (same n) ∙ ap names bytes ∙ (followed names met name next text h).found)

  leads : (s : Schema) (text : List ℕ) (next : Schema) (refers : RefersTo s text) (n : List ℕ) → name_of (Some refers.letters) ≡ Some n → schema_named definitions n ≡ Some next → LeadsTo definitions s next
  leads s text next refers n is found =
      referred n next (ap (λ (z : SchemaLevel). level_by_form (λ b. None) (λ o. name_of (out-SchemaObject o).reference) z) refers.of_object ∙ ap name_of refers.reference_is ∙ is) found

  module _ (whole : Schema) (accepted : IsAccepted definitions whole) (r : ℕ) (enough : room definitions whole ≤ r) where
    abbrev doc : Json
    doc = document_of definitions

    abbrev q : ℕ
    q = written_room doc (schema_json None whole)

    rest : (s : Schema) → IsReached definitions whole s → Rests definitions r s
    rest = rests doc definitions whole None accepted (defines_all definitions whole) q r (omega arith) enough

    rest_written : (s : Schema) → IsReached definitions whole s → Rests definitions q s
    rest_written = rests_written doc definitions whole None accepted (defines_all definitions whole) q r (omega arith) enough

    -- any steps that are never spent admit the same
    any_steps : (j : Json) (s : Schema) → IsReached definitions whole s → (n m : ℕ) → Rests definitions n s → Rests definitions m s → admits_within definitions r j n s ≡ admits_within definitions r j m s
    any_steps j s i n m hn hm =
        let at = agree definitions whole doc accepted (defines_all definitions whole) q r rest_written rest (omega (arith, enough)) j s i q (rest_written s i) None in
        sym (at n hn) ∙ at m hm

    admits_next : (j : Json) (s : Schema) (text : List ℕ) (next : Schema) (refers : RefersTo s text) (n : List ℕ) → name_of (Some refers.letters) ≡ Some n → schema_named definitions n ≡ Some next → (k : ℕ)
        → admits_within definitions r j (suc k) s ≡ admits_within definitions r j k next
    admits_next j s text next refers n is found k =
        let smaller = smaller_admits definitions r in
        let later = admits_within definitions r j k in
        admits-suc definitions r j k s
        ∙ ap (λ (z : SchemaLevel). level_by_form (λ b. b) (object_admits definitions smaller later j (out-Json j)) z) refers.of_object
        ∙ ap (λ (o : Option (List ℕ)). option_map_or (λ text. is_some_and (option_and_then (schema_named definitions) (name_of (Some text))) later) o (parts_admit smaller later j (out-Json j) (out-SchemaObject refers.object))) refers.reference_is
        ∙ ap (λ (o : Option (List ℕ)). is_some_and (option_and_then (schema_named definitions) o) later) is
        ∙ ap (λ (o : Option Schema). is_some_and o later) found

    -- a schema that is reached admits what another does, with any steps that are never spent
    abbrev MeansTheSame : Schema → Schema → Type 0
    MeansTheSame s found = IsReached definitions whole found × ((j : Json) (n m : ℕ) → Rests definitions n s → Rests definitions m found → admits_within definitions r j n s ≡ admits_within definitions r j m found)

    step_taken : (s : Schema) (text : List ℕ) (next found : Schema) (refers : RefersTo s text) (name : List ℕ) → name_of (Some refers.letters) ≡ Some name → schema_named definitions name ≡ Some next → MeansTheSame next found
        → (j : Json) (n m : ℕ) → Rests definitions n s → Rests definitions m found → admits_within definitions r j n s ≡ admits_within definitions r j m found
    unfolding Rests
    step_taken s text next found refers name is here later j zero m hn hm = absurd hn
    step_taken s text next found refers name is here later j (suc k) m hn hm =
        admits_next j s text next refers name is here k ∙ later.1 j k m (hn next (leads s text next refers name is here)) hm

    same_end : {met : List (List ℕ)} {s : Schema} {end : Result Schema Unresolved} → ComesTo names met s end → (found : Schema) → end ≡ Ok found → IsReached definitions whole s → MeansTheSame s found
    same_end (stays {met} {schema} none) found e i =
        let is : schema ≡ found = cc e in
        subst (MeansTheSame schema) is (i, λ j n m hn hm. any_steps j schema i n m hn hm)
    same_end (breaks text why refers stops) found e i = absurd (cc e)
    same_end (goes_on {met} {schema} text name next end refers follows later) found e i =
        let ref = schema_refers schema text refers in
        let (n, is, here) = found_named met schema text name next ref follows in
        let rest_of = same_end later found e (same_value schema next i (leads schema text next ref n is here)) in
        (rest_of.0, step_taken schema text next found ref n is here rest_of)

pub resolved_agrees : (names : Names) (definitions : NamedSchemas) (schema found : Schema) → HasTheSame names definitions → IsAccepted definitions schema → ComesTo names [] schema (Ok found)
    → (json : Json) → SchemaAdmits definitions schema json ↔ SchemaAdmits definitions found json
resolved_agrees names definitions schema found same accepted comes json =
    let r = room definitions schema + room definitions found in
    let end = same_end names definitions same schema accepted r (omega arith) comes found refl itself in
    let at = rest names definitions same schema accepted r (omega arith) in
    let is = sym (meant_steps definitions schema accepted json r (omega arith))
    ∙ end.1 json r r (at schema itself) (at found end.0)
    ∙ meant_steps definitions found (λ t i. accepted t (reached_further definitions schema found t end.0 i)) json r (omega arith) in
    (λ h. subst IsTrue is h, λ h. subst IsTrue (sym is) h)
