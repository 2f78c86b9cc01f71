-- At one value whose smaller values agree: external and tagged enumerations agree with their schemas.
use Rattle.std.proofs.Common.{◌≡◌, ℕ, zero, suc, ◌+◌, ◌≤◌, Bool, true, false, ◌||◌, List, [], ◌∷◌, map, Option, Some, None, is_ok, codes, count_by, refl, sym, ◌∙◌, ap, subst, arith, inl, inr}
use Rattle.std.proofs.lemmas.List.Sums.{sum_by-append, sum_by-cons}
use Rattle.std.specs.List.{list_any}
use Rattle.std.specs.Prelude.{Contains}
use Rattle.schema_values.specs.declared.json_value.Json.{Json, out-Json, List as Items}
use Rattle.schema_values.specs.declared.json_value.Json.TheOpen.{Json-F}
use Rattle.schema_values.specs.declared.json_value.Member.{Member}
use Rattle.schema_values.specs.Member.{member}
use Rattle.schema_values.specs.Sound.{AreDistinct}
use Rattle.openapi_values.specs.JsonAdmits.{admits_within}
use Rattle.openapi_values.specs.Smaller.{smaller_admits}
use Rattle.openapi_values.proofs.CallerLemmas.{admits-suc}
use Rattle.descriptors.specs.declared.desc.Desc.{Desc, Enumeration}
use Rattle.descriptors.specs.declared.desc.Field.{Field}
use Rattle.descriptors.specs.declared.desc.TaggedVariant.{TaggedVariant}
use Rattle.descriptors.specs.declared.desc.Variant.{Variant}
use Rattle.descriptors.specs.declared.table.Definition.{Definition}
use Rattle.descriptors.specs.Definitions.{field_name, tagged_description, tagged_fields, tagged_name, variant_name}
use Rattle.typed_values.specs.Denotes.{Told, told, external, tagged}
use Rattle.typed_values.specs.DescBeside.{tagged_with, variant_with}
use Rattle.typed_values.specs.Rows.{struct_row}
use Rattle.typed_values.specs.SchemaTable.{DrawnVariant, no_remarks, plain, drawn, drawn_json, described, bare_names, choices_of, payload_choices, external_choices, tagged_choice}
use Rattle.schema_values.proofs.CallerLemmas.{contains_cases, contains_first, contains_later}
use Rattle.typed_values.proofs.CallerLemmas.{IsNeeded, two_maps}
use Rattle.written_schemas.proofs.AtOneValue.{AgreesAt, Below, FieldsAgree, object_agrees, one_agrees, names_counted, plain_names}
use Rattle.written_schemas.proofs.Counted.{count, either_counted, counted_once, counted_map}
use Rattle.written_schemas.proofs.Enumerations.{is_named}
use Rattle.written_schemas.proofs.Forms.{fields_drawn}
use Rattle.written_schemas.proofs.Structs.{struct_admits}
use Rattle.written_schemas.proofs.ExternalVariants.{payload_in, payload_told, names_bare, bare_distinct, IsNamedOnce, external_is, name_or_payload, payload_once}
use Rattle.written_schemas.proofs.TaggedVariants.{told_alone, tagged_is, tag_once}
use Rattle.written_schemas.proofs.VariantForms.{required_of, alone, behind_tag, drawn_alone, tagged_is_struct}

module _ (table : List Definition) (whole : Desc) (doc : Json) (q : ℕ) (j : Json) (smaller : Below table whole doc q (out-Json j)) where
  -- a struct with a description, as a choice
  struct_choice : (fs : List Field) (deny : Bool) (text : Option (List ℕ)) → AreDistinct (map field_name fs) → FieldsAgree table whole doc q fs → (k : ℕ)
      → admits_within doc q j (suc k) (drawn_json (described text (fields_drawn table fs deny))) ≡ is_ok (struct_row table whole fs deny (out-Json j))
  struct_choice fs deny None once each k =
      admits-suc doc q j k _
      ∙ struct_admits doc (smaller_admits doc q) (admits_within doc q j k) j false None no_remarks (out-Json j) _ _ deny
      ∙ object_agrees table whole doc q j fs deny once each (out-Json j) smaller
  struct_choice fs deny (Some text) once each k =
      admits-suc doc q j k _
      ∙ struct_admits doc (smaller_admits doc q) (admits_within doc q j k) j false None (record no_remarks { description = Some text }) (out-Json j) _ _ deny
      ∙ object_agrees table whole doc q j fs deny once each (out-Json j) smaller

  -- ---- external enumerations

  abbrev ArePayloadsNeeded : List Variant → Type 0
  ArePayloadsNeeded vs = (v : Variant) (x : Desc) → Contains vs v → v.payload ≡ Some x → IsNeeded table whole x

  payload_agrees : (name : List ℕ) (x : Desc) → IsNeeded table whole x → FieldsAgree table whole doc q (required_of name x ∷ [])
  payload_agrees name x need f c v h = elim (contains_cases (required_of name x) [] f c) [
    | inl same ↦ subst (λ (g : Field). AgreesAt table whole doc q v q g.desc) same (h x need)
    | inr later ↦ absurd (omega (arith, later.1))
  ]

  payload_row : (k : ℕ) (v : Variant) (rest : List DrawnVariant) (o : Option Desc) → v.payload ≡ o → ((x : Desc) → o ≡ Some x → IsNeeded table whole x)
      → count_by (admits_within doc q j (suc k)) (payload_choices (variant_with (drawn table) v ∷ rest)) ≡ count (payload_in table whole (out-Json j) v.name o) + count_by (admits_within doc q j (suc k)) (payload_choices rest)
  payload_row k v rest None e need = rw e (omega arith)
  payload_row k v rest (Some x) e need =
      let next = admits_within doc q j (suc k) in
      rw e (sum_by-cons (λ s. count (next s)) _ (payload_choices rest)
      ∙ ap (λ (b : Bool). count b + count_by next (payload_choices rest)) (struct_choice (required_of v.name x ∷ []) true v.description (tt, tt) (payload_agrees v.name x (need x refl)) k))

  payloads_counted : (k : ℕ) (vs : List Variant) → ArePayloadsNeeded vs → count_by (admits_within doc q j (suc k)) (payload_choices (map (variant_with (drawn table)) vs)) ≡ count_by (payload_told table whole (out-Json j)) vs
  payloads_counted k [] need = refl
  payloads_counted k (v ∷ vs) need =
      payload_row k v (map (variant_with (drawn table)) vs) v.payload refl (λ x e. need v x (contains_first v vs) e)
      ∙ ap (λ (n : ℕ). count (payload_told table whole (out-Json j) v) + n) (payloads_counted k vs (λ w x c e. need w x (contains_later v vs w c) e))
      ∙ sym (sum_by-cons (λ v. count (payload_told table whole (out-Json j) v)) v vs)

  module _ (d : Desc) (vs : List Variant) (need : ArePayloadsNeeded vs) (once : AreDistinct (map variant_name vs)) where
    abbrev name_told : Bool
    name_told = list_any (is_named (out-Json j)) (names_bare table vs)

    abbrev payloads_told : Bool
    payloads_told = list_any (payload_told table whole (out-Json j)) vs

    external_counted : (k : ℕ) → count_by (admits_within doc q j (suc k)) (external_choices (map (variant_with (drawn table)) vs)) ≡ count (name_told || payloads_told)
    external_counted k =
        let next = admits_within doc q j (suc k) in
        sum_by-append (λ s. count (next s)) (choices_of (bare_names (map (variant_with (drawn table)) vs))) (payload_choices (map (variant_with (drawn table)) vs))
        ∙ ap (λ (n : ℕ). n + count_by next (payload_choices (map (variant_with (drawn table)) vs))) (names_counted table whole doc q j (bare_names (map (variant_with (drawn table)) vs)) (bare_distinct table vs once) k)
        ∙ ap (λ (n : ℕ). count name_told + n) (payloads_counted k vs need ∙ counted_once variant_name (payload_told table whole (out-Json j)) (payload_once table whole (out-Json j)) vs once)
        ∙ either_counted name_told payloads_told (name_or_payload table whole (out-Json j) (names_bare table vs) vs)

    named_once : (y : Json-F Json Member) → Below table whole doc q y → IsNamedOnce y
    named_once Json-F.Null h = tt
    named_once (Json-F.Bool b) h = tt
    named_once (Json-F.Int i) h = tt
    named_once (Json-F.Text w) h = tt
    named_once (Json-F.List js) h = tt
    named_once (Json-F.Object ms) h = h.1

    pub external_agrees : drawn table d ≡ plain (member (codes "oneOf") (Items (external_choices (map (variant_with (drawn table)) vs))) ∷ []) → told table whole j d ≡ external (told table whole) vs (out-Json j)
        → (m : ℕ) → 2 ≤ m → AgreesAt table whole doc q j m d
    external_agrees e same zero le = absurd (omega (arith, le))
    external_agrees e same (suc zero) le = absurd (omega (arith, le))
    external_agrees e same (suc (suc k)) le =
        one_agrees table whole doc q j d (external_choices (map (variant_with (drawn table)) vs)) (suc k) (name_told || payloads_told) e (external_counted k)
        (sym (external_is table whole vs once (out-Json j) (named_once (out-Json j) smaller)) ∙ ap (λ (o : Told). is_ok o) (sym same))

  -- ---- tagged enumerations

  module _ (some : 1 ≤ q) (d : Desc) (tag : List ℕ) (vs : List TaggedVariant) (need : (v : TaggedVariant) (f : Field) → Contains vs v → Contains (tagged_fields v) f → IsNeeded table whole f.desc)
      (once : AreDistinct (map tagged_name vs)) (apart : (v : TaggedVariant) → Contains vs v → AreDistinct (map field_name (behind_tag tag v))) where
    alone_agrees : (v : Json) (name : List ℕ) → AgreesAt table whole doc q v q (Enumeration (alone name))
    alone_agrees v name = plain_names table whole doc q v (Enumeration (alone name)) (alone name) (told_alone table whole v name) (tt, tt) (drawn_alone table name) q some

    behind_agrees : (v : TaggedVariant) → Contains vs v → FieldsAgree table whole doc q (behind_tag tag v)
    behind_agrees v c f k w h = elim (contains_cases (required_of tag (Enumeration (alone (tagged_name v)))) (tagged_fields v) f k) [
      | inl same ↦ subst (λ (g : Field). AgreesAt table whole doc q w q g.desc) same (alone_agrees w (tagged_name v))
      | inr later ↦ h f.desc (need v f c later)
    ]

    abbrev variant_told : TaggedVariant → Bool
    variant_told v = is_ok (struct_row table whole (behind_tag tag v) false (out-Json j))

    variant_choice : (k : ℕ) (v : TaggedVariant) → Contains vs v → admits_within doc q j (suc k) (tagged_choice table tag (tagged_with (drawn table) v)) ≡ variant_told v
    variant_choice k v c =
        ap (admits_within doc q j (suc k)) (tagged_is_struct table tag v)
        ∙ struct_choice (behind_tag tag v) false (tagged_description v) (apart v c) (behind_agrees v c) k

    tagged_counted : (k : ℕ) → count_by (admits_within doc q j (suc k)) (map (tagged_choice table tag) (map (tagged_with (drawn table)) vs)) ≡ count (list_any variant_told vs)
    tagged_counted k =
        let next = admits_within doc q j (suc k) in
        ap (count_by next) (two_maps (tagged_choice table tag) (tagged_with (drawn table)) (λ v. tagged_choice table tag (tagged_with (drawn table) v)) (λ v. refl) vs)
        ∙ counted_map next variant_told (λ v. tagged_choice table tag (tagged_with (drawn table) v)) vs (variant_choice k)
        ∙ counted_once tagged_name variant_told (tag_once table whole tag (out-Json j)) vs once

    pub tagged_agrees : drawn table d ≡ plain (member (codes "oneOf") (Items (map (tagged_choice table tag) (map (tagged_with (drawn table)) vs))) ∷ [])
        → told table whole j d ≡ tagged (λ j. j) (λ fs. struct_row table whole fs false (out-Json j)) tag vs (out-Json j) → (m : ℕ) → 2 ≤ m → AgreesAt table whole doc q j m d
    tagged_agrees e same zero le = absurd (omega (arith, le))
    tagged_agrees e same (suc zero) le = absurd (omega (arith, le))
    tagged_agrees e same (suc (suc k)) le =
        one_agrees table whole doc q j d (map (tagged_choice table tag) (map (tagged_with (drawn table)) vs)) (suc k) (list_any variant_told vs) e (tagged_counted k)
        (sym (tagged_is table whole tag vs once (out-Json j)) ∙ ap (λ (o : Told). is_ok o) (sym same))
