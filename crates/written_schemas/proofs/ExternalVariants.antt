-- An external enumeration denotes what the enumeration of its names without payload does, or the struct of one payload.
use Rattle.std.proofs.Common.{◌≡◌, ℕ, Bool, true, false, ◌&&◌, ◌||◌, List, [], ◌∷◌, map, Option, Some, None, is_ok, is_none, bytes_eq, cond, refl, sym, ◌∙◌, ap}
use Rattle.std.proofs.Math.Bool.{and-true, and-false, and_comm, or-false}
use Rattle.std.proofs.lemmas.Bool.{and_parts}
use Rattle.std.proofs.lemmas.Slice.Eq.{bytes_eq-Decides}
use Rattle.std.specs.List.{list_all, list_any, AllByRecursion}
use Rattle.std.specs.Prelude.{◌≢◌, ⊤}
use Rattle.schema_values.specs.declared.json_value.Json.{Json}
use Rattle.schema_values.specs.declared.json_value.Json.TheOpen.{Json-F}
use Rattle.schema_values.specs.declared.json_value.Member.{Member}
use Rattle.schema_values.specs.Member.{name_of}
use Rattle.schema_values.specs.Sound.{AreDistinct}
use Rattle.descriptors.specs.declared.desc.Desc.{Desc}
use Rattle.descriptors.specs.declared.desc.Variant.{Variant}
use Rattle.typed_values.specs.declared.fault.FaultKind.TheVariants.{NotListed}
use Rattle.descriptors.specs.declared.table.Definition.{Definition}
use Rattle.descriptors.specs.Definitions.{listed_name, variant_name}
use Rattle.typed_values.specs.Denotes.{told, refused, without_payload, with_payload, external, is_declared, member_name}
use Rattle.typed_values.specs.DescBeside.{variant_with}
use Rattle.typed_values.specs.Rows.{told_field, told_fields, struct_row}
use Rattle.typed_values.specs.SchemaTable.{bare_names, drawn}
use Rattle.descriptors.proofs.CallerLemmas.{other_name}
use Rattle.typed_values.proofs.CallerLemmas.{ok_below, ok_all, ok_struct}
use Rattle.written_schemas.proofs.Counted.{none_of}
use Rattle.written_schemas.proofs.Enumerations.{is_named, turned}
use Rattle.written_schemas.proofs.FoundByName.{any_same, ok_found, ok_chosen}
use Rattle.openapi_values.proofs.CallerLemmas.{all_same}
use Rattle.written_schemas.proofs.VariantForms.{required_of}

module _ (table : List Definition) where
  -- the names of variants without payload
  abbrev pub names_bare : List Variant → List (List ℕ)
  names_bare vs = map listed_name (bare_names (map (variant_with (drawn table)) vs))

  bare_row : (w : List ℕ) (v : Variant) (vs : List Variant) (o : Option Desc) → v.payload ≡ o
      → list_any (bytes_eq w) (names_bare (v ∷ vs)) ≡ (bytes_eq w v.name && is_none o || list_any (bytes_eq w) (names_bare vs))
  bare_row w v vs None e = rw e (ap (λ (b : Bool). b || list_any (bytes_eq w) (names_bare vs)) (sym (and-true (bytes_eq w v.name))))
  bare_row w v vs (Some d) e = rw e (ap (λ (b : Bool). b || list_any (bytes_eq w) (names_bare vs)) (sym (and-false (bytes_eq w v.name))))

  bare_new : (name : List ℕ) (vs : List Variant) → AllByRecursion (λ other. name ≢ other) (map variant_name vs) → AllByRecursion (λ other. name ≢ other) (names_bare vs)
  bare_new name [] h = tt
  bare_new name (v ∷ vs) h = by_payload v.payload refl (bare_new name vs h.1)
    where
      by_payload : (o : Option Desc) → v.payload ≡ o → AllByRecursion (λ other. name ≢ other) (names_bare vs) → AllByRecursion (λ other. name ≢ other) (names_bare (v ∷ vs))
      by_payload None e later = rw e (h.0, later)
      by_payload (Some d) e later = rw e later

  pub bare_distinct : (vs : List Variant) → AreDistinct (map variant_name vs) → AreDistinct (names_bare vs)
  bare_distinct [] h = tt
  bare_distinct (v ∷ vs) h = by_payload v.payload refl (bare_distinct vs h.1)
    where
      by_payload : (o : Option Desc) → v.payload ≡ o → AreDistinct (names_bare vs) → AreDistinct (names_bare (v ∷ vs))
      by_payload None e later = rw e (bare_new v.name vs h.0, later)
      by_payload (Some d) e later = rw e later

  bare_is : (w : List ℕ) (vs : List Variant) → list_any (bytes_eq w) (names_bare vs) ≡ list_any (λ v. bytes_eq v.name w && is_none v.payload) vs
  bare_is w [] = refl
  bare_is w (v ∷ vs) =
      bare_row w v vs v.payload refl
      ∙ ap (λ (b : Bool). b && is_none v.payload || list_any (bytes_eq w) (names_bare vs)) (turned w v.name)
      ∙ ap (λ (b : Bool). bytes_eq v.name w && is_none v.payload || b) (bare_is w vs)

ok_without : (i : ℕ) (v : Variant) → is_ok (without_payload i v) ≡ is_none v.payload
ok_without i v = by_payload v.payload refl
  where
    by_payload : (o : Option Desc) → v.payload ≡ o → is_ok (without_payload i v) ≡ is_none o
    by_payload None e = rw e refl
    by_payload (Some d) e = rw e refl

-- the members of an object have distinct names
abbrev pub IsNamedOnce : Json-F Json Member → Type 0
IsNamedOnce (Json-F.Object ms) = AreDistinct (map name_of ms)
IsNamedOnce _ = ⊤

module _ (table : List Definition) (whole : Desc) where
  -- a payload under its name
  abbrev pub payload_in : Json-F Json Member → List ℕ → Option Desc → Bool
  payload_in y name None = false
  payload_in y name (Some d) = is_ok (struct_row table whole (required_of name d ∷ []) true y)

  abbrev pub payload_told : Json-F Json Member → Variant → Bool
  payload_told y v = payload_in y v.name v.payload

  -- a value under a payload
  abbrev payload_at : Json → Option Desc → Bool
  payload_at j None = false
  payload_at j (Some d) = is_ok (told table whole j d)

  ok_with : (j : Json) (i : ℕ) (v : Variant) → is_ok (with_payload (told table whole j) i v) ≡ payload_at j v.payload
  ok_with j i v = by_payload v.payload refl
    where
      by_payload : (o : Option Desc) → v.payload ≡ o → is_ok (with_payload (told table whole j) i v) ≡ payload_at j o
      by_payload None e = rw e refl
      by_payload (Some d) e = rw e (ok_chosen i _ ∙ ok_below _ (told table whole j d))

  -- an object of one name alone
  declared_alone : (name : List ℕ) (d : Desc) (other : List ℕ) → is_declared (required_of name d ∷ []) other ≡ bytes_eq name other
  declared_alone name d other = by_name (bytes_eq name other)
    where
      by_name : (b : Bool) → cond b true false ≡ b
      by_name true = refl
      by_name false = refl

  -- whether all members have a name
  abbrev are_all_named : List ℕ → List Member → Bool
  are_all_named name ms = list_all (λ m. bytes_eq (member_name m) name) ms

  payload_row : (m : Member) (ms : List Member) (name : List ℕ) (o : Option Desc) → payload_in (Json-F.Object (m ∷ ms)) name o ≡ (are_all_named m.name ms && (bytes_eq name m.name && payload_at m.value o))
  payload_row m ms name None = sym (ap (λ (b : Bool). are_all_named m.name ms && b) (and-false (bytes_eq name m.name)) ∙ and-false (are_all_named m.name ms))
  payload_row m ms name (Some d) =
      let f = required_of name d in
      ok_struct true (f ∷ []) (m ∷ ms) (told_fields table whole (m ∷ ms) (f ∷ []))
      ∙ ap (λ (b : Bool). b && list_all (λ x. is_declared (f ∷ []) x.name) (m ∷ ms)) (ok_all (λ i f. told_field table whole (m ∷ ms) f) (λ f. is_ok (told_field table whole (m ∷ ms) f)) (λ i f. refl) 0 (f ∷ []) ∙ and-true (is_ok (told_field table whole (m ∷ ms) f)))
      ∙ ap (λ (b : Bool). is_ok (told_field table whole (m ∷ ms) f) && b) (all_same (λ x. is_declared (f ∷ []) x.name) (λ x. bytes_eq name x.name) (λ x. declared_alone name d x.name) (m ∷ ms))
      ∙ by_name (bytes_eq name m.name) refl
    where
      by_name : (b : Bool) → bytes_eq name m.name ≡ b → (is_ok (told_field table whole (m ∷ ms) (required_of name d)) && (bytes_eq name m.name && list_all (λ x. bytes_eq name x.name) ms))
          ≡ (are_all_named m.name ms && (bytes_eq name m.name && is_ok (told table whole m.value d)))
      by_name true e =
          let same : m.name ≡ name = sym ((bytes_eq-Decides name m.name).0 e) in
          let here : bytes_eq m.name name ≡ true = (bytes_eq-Decides m.name name).1 same in
          rw (e, here) (ap (λ (b : Bool). b && list_all (λ x. bytes_eq name x.name) ms) (ok_below _ (told table whole m.value d))
          ∙ ap (λ (b : Bool). is_ok (told table whole m.value d) && b) (all_same (λ x. bytes_eq name x.name) (λ x. bytes_eq (member_name x) m.name) (λ x. turned name x.name ∙ ap (bytes_eq x.name) (sym same)) ms)
          ∙ and_comm (is_ok (told table whole m.value d)) (are_all_named m.name ms))
      by_name false e = rw e (and-false _ ∙ sym (and-false _))

  no_payload : (y : Json-F Json Member) → ((name : List ℕ) (d : Desc) → is_ok (struct_row table whole (required_of name d ∷ []) true y) ≡ false) → (vs : List Variant) → list_any (payload_told y) vs ≡ false
  no_payload y none vs = none_of (payload_told y) (λ v. by_payload v.name v.payload) vs
    where
      by_payload : (name : List ℕ) (o : Option Desc) → payload_in y name o ≡ false
      by_payload name None = refl
      by_payload name (Some d) = none name d

  neither : (y : Json-F Json Member) → ((name : List ℕ) → is_named y name ≡ false) → ((name : List ℕ) (d : Desc) → is_ok (struct_row table whole (required_of name d ∷ []) true y) ≡ false) → (vs : List Variant)
      → false ≡ (list_any (is_named y) (names_bare table vs) || list_any (payload_told y) vs)
  neither y no_name none vs = sym (ap (λ (b : Bool). b || list_any (payload_told y) vs) (none_of (is_named y) no_name (names_bare table vs)) ∙ no_payload y none vs)

  -- a name of the enumeration, or the struct of one payload
  pub external_is : (vs : List Variant) → AreDistinct (map variant_name vs) → (y : Json-F Json Member) → IsNamedOnce y → is_ok (external (told table whole) vs y) ≡ (list_any (is_named y) (names_bare table vs) || list_any (payload_told y) vs)
  external_is vs once Json-F.Null apart = neither Json-F.Null (λ name. refl) (λ name d. refl) vs
  external_is vs once (Json-F.Bool b) apart = neither (Json-F.Bool b) (λ name. refl) (λ name d. refl) vs
  external_is vs once (Json-F.Int i) apart = neither (Json-F.Int i) (λ name. refl) (λ name d. refl) vs
  external_is vs once (Json-F.List js) apart = neither (Json-F.List js) (λ name. refl) (λ name d. refl) vs
  external_is vs once (Json-F.Object []) apart = neither (Json-F.Object []) (λ name. refl) (λ name d. refl) vs
  external_is vs once (Json-F.Text w) apart =
      ok_found variant_name without_payload (refused NotListed) (λ v. is_none v.payload) refl ok_without w 0 vs once
      ∙ sym (bare_is table w vs)
      ∙ sym (or-false (list_any (bytes_eq w) (names_bare table vs)))
      ∙ ap (λ (b : Bool). list_any (bytes_eq w) (names_bare table vs) || b) (sym (no_payload (Json-F.Text w) (λ name d. refl) vs))
  external_is vs once (Json-F.Object (m ∷ [])) apart =
      let y = Json-F.Object (m ∷ []) in
      ok_found variant_name (with_payload (told table whole m.value)) (refused NotListed) (λ v. payload_at m.value v.payload) refl (ok_with m.value) m.name 0 vs once
      ∙ any_same _ (payload_told y) (λ v. sym (payload_row m [] v.name v.payload)) vs
      ∙ ap (λ (b : Bool). b || list_any (payload_told y) vs) (sym (none_of (is_named y) (λ name. refl) (names_bare table vs)))
  external_is vs once (Json-F.Object (m ∷ n ∷ ms)) apart =
      neither (Json-F.Object (m ∷ n ∷ ms)) (λ name. refl)
      (λ name d. payload_row m (n ∷ ms) name (Some d)
      ∙ ap (λ (b : Bool). (b && are_all_named m.name ms) && (bytes_eq name m.name && payload_at m.value (Some d))) (other_name n.name m.name (λ e. apart.0.0 (sym e)))) vs

  -- a text is no payload
  pub name_or_payload : (y : Json-F Json Member) (names : List (List ℕ)) (vs : List Variant) → list_any (is_named y) names ≡ true → list_any (payload_told y) vs ≡ false
  name_or_payload Json-F.Null names vs e = no_payload Json-F.Null (λ name d. refl) vs
  name_or_payload (Json-F.Bool b) names vs e = no_payload (Json-F.Bool b) (λ name d. refl) vs
  name_or_payload (Json-F.Int i) names vs e = no_payload (Json-F.Int i) (λ name d. refl) vs
  name_or_payload (Json-F.Text w) names vs e = no_payload (Json-F.Text w) (λ name d. refl) vs
  name_or_payload (Json-F.List js) names vs e = no_payload (Json-F.List js) (λ name d. refl) vs
  name_or_payload (Json-F.Object ms) names vs e = absurd (let never : false ≡ true = sym (none_of (is_named (Json-F.Object ms)) (λ name. refl) names) ∙ e in cc never)

  abbrev first_name : Json-F Json Member → Option (List ℕ)
  first_name (Json-F.Object (m ∷ ms)) = Some m.name
  first_name _ = None

  payload_named : (y : Json-F Json Member) (name : List ℕ) (o : Option Desc) → payload_in y name o ≡ true → first_name y ≡ Some name
  payload_named y name None e = absurd (cc e)
  payload_named Json-F.Null name (Some d) e = absurd (cc e)
  payload_named (Json-F.Bool b) name (Some d) e = absurd (cc e)
  payload_named (Json-F.Int i) name (Some d) e = absurd (cc e)
  payload_named (Json-F.Text w) name (Some d) e = absurd (cc e)
  payload_named (Json-F.List js) name (Some d) e = absurd (cc e)
  payload_named (Json-F.Object []) name (Some d) e = absurd (cc e)
  payload_named (Json-F.Object (m ∷ ms)) name (Some d) e =
      let (all, here) = and_parts (are_all_named m.name ms) _ (sym (payload_row m ms name (Some d)) ∙ e) in
      ap Some (sym ((bytes_eq-Decides name m.name).0 (and_parts (bytes_eq name m.name) _ here).0))

  -- and no other payload
  pub payload_once : (y : Json-F Json Member) (a b : Variant) → payload_told y a ≡ true → payload_told y b ≡ true → a.name ≡ b.name
  payload_once y a b e f =
      let same : Some a.name ≡ Some b.name = sym (payload_named y a.name a.payload e) ∙ payload_named y b.name b.payload f in
      cc same
