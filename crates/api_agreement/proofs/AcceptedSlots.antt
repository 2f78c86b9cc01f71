-- The slots of an endpoint that may be registered, and that documents show, are such that a document says what its
-- requests denote.
use Rattle.std.proofs.Common.{◌≡◌, ℕ, ◌+◌, ◌≤◌, Bool, true, false, ◌&&◌, ◌||◌, cond, List, [], ◌∷◌, Option}
use Rattle.std.proofs.Common.{Some, None, IsTrue, bytes_eq, codes, refl, sym, ◌∙◌, ap, subst, arith, inl, inr}
use Rattle.std.proofs.lemmas.Bool.{cases_lt, lt-ltb, or_left, or_right}
use Rattle.std.proofs.lemmas.List.Elements.{All-contains, All-contains_itself}
use Rattle.std.proofs.lemmas.List.Folds.{list_any_at}
use Rattle.std.proofs.lemmas.List.Kept.{AllPairs-cons}
use Rattle.std.proofs.lemmas.List.Sums.{sum_by-cons}
use Rattle.std.proofs.lemmas.Slice.Eq.{bytes_eq-Decides}
use Rattle.std.specs.List.{list_any}
use Rattle.std.specs.Prelude.{◌≢◌, AllPairs, Contains, count_by}
use Rattle.schema_values.proofs.CallerLemmas.{contains_cases}
use Rattle.descriptors.specs.declared.desc.Desc.{Desc, out-Desc}
use Rattle.descriptors.specs.declared.desc.Desc.TheOpen.{Desc-F}
use Rattle.descriptors.specs.declared.desc.Field.{Field}
use Rattle.descriptors.specs.declared.desc.Presence.{Presence}
use Rattle.descriptors.specs.declared.desc.Presence.TheVariants.{Required, Nullable, Skipped, Default}
use Rattle.descriptors.specs.declared.table.Definition.{Definition}
use Rattle.typed_values.specs.Checks.{DescPasses}
use Rattle.typed_values.specs.Levels.{DescLevel}
use Rattle.flat_maps.specs.Flat.{fields_by, flat_fields, resolved}
use Rattle.written_texts.specs.FlatStructs.{IsFlatStruct}
use Rattle.request_parts.specs.declared.content_type.ApiEndpointBodyContentType.{ApiEndpointBodyContentType}
use Rattle.request_parts.specs.declared.content_type.ApiEndpointBodyContentType.TheVariants as kinds
use Rattle.handler_shapes.specs.declared.slot.Slot.{Slot}
use Rattle.handler_shapes.specs.declared.slot.Slot.TheVariants.{Path, Query, Header, PagedQuery, TypedBody, RawBody}
use Rattle.handler_shapes.specs.declared.slot.Slot.TheVariants.{StreamBody}
use Rattle.handler_shapes.specs.ScalarTypes.{IsScalarType}
use Rattle.handler_shapes.specs.ShapeChecks.{ShapePasses, SlotPasses}
use Rattle.handler_shapes.specs.SlotFields.{struct_fields}
use Rattle.tag_config.specs.Configurations.{Configuration}
use Rattle.api_declarations.specs.Values.{DeclarationValue}
use Rattle.endpoint_parameters.specs.Parameters.{Parameter, field_of, fields_of_level, fields_of_resolved}
use Rattle.endpoint_parameters.specs.Parameters.{fields_of_struct, in_header, in_path, in_query, parameters}
use Rattle.endpoint_parameters.specs.Parameters.{parameters_of_slot}
use Rattle.endpoint_parameters.specs.ParameterTypes.{IsScalarOrRest, MayBeAbsent}
use Rattle.endpoint_parameters.proofs.CallerLemmas.{none_holds}
use Rattle.api_registration.specs.declared.cause.RegisterCause.TheVariants as cause
use Rattle.endpoint_checks.specs.Paths.{path_wildcard}
use Rattle.api_registration.specs.Registering.{MayRegister}
use Rattle.endpoint_checks.specs.Slots.{IsReadAs, TakesReadBody, has_query_beside_pages, is_page_name}
use Rattle.endpoint_checks.specs.Slots.{takes_page_name, takes_pages, takes_query}
use Rattle.endpoint_checks.specs.Types.{IsOpenStruct}
use Rattle.api_agreement.specs.ShownSlots.{AreScanned, HasShownSlots, IsBodyType, IsOfPages, IsOfQuery, IsShown}
use Rattle.api_agreement.specs.ShownSlots.{ReadApart}
use Rattle.api_agreement.proofs.Elements.{fails_of, is_there, joined_of, made_of, neither}

-- ---- a slot of pages is alone among those of the query

pages_test : (slot : Slot) → IsOfPages slot → takes_pages slot ≡ true
pages_test (PagedQuery scan selector selector_table) p = refl
pages_test (Path desc) p = absurd p
pages_test (Query desc) p = absurd p
pages_test (Header desc) p = absurd p
pages_test (TypedBody desc name) p = absurd p
pages_test RawBody p = absurd p
pages_test StreamBody p = absurd p

query_test : (slot : Slot) → IsOfQuery slot → takes_query slot ≡ true
query_test (PagedQuery scan selector selector_table) p = refl
query_test (Path desc) p = absurd p
query_test (Query desc) p = refl
query_test (Header desc) p = absurd p
query_test (TypedBody desc name) p = absurd p
query_test RawBody p = absurd p
query_test StreamBody p = absurd p

pages_query : (slot : Slot) → takes_pages slot ≡ true → takes_query slot ≡ true
pages_query (PagedQuery scan selector selector_table) p = refl
pages_query (Path desc) p = absurd (cc p)
pages_query (Query desc) p = refl
pages_query (Header desc) p = absurd (cc p)
pages_query (TypedBody desc name) p = absurd (cc p)
pages_query RawBody p = absurd (cc p)
pages_query StreamBody p = absurd (cc p)

module _ {A : Type 0} (p : A → Bool) where
  counted_first : (x : A) (xs : List A) → p x ≡ true → count_by p (x ∷ xs) ≡ 1 + count_by p xs
  counted_first x xs e = sum_by-cons (λ y. cond (p y) 1 0) x xs ∙ ap (λ (b : Bool). cond b 1 0 + count_by p xs) e

  no_more : (x : A) (xs : List A) → count_by p xs ≤ count_by p (x ∷ xs)
  no_more x xs = omega (arith, sum_by-cons (λ y. cond (p y) 1 0) x xs)

  counted : (xs : List A) (x : A) → Contains xs x → p x ≡ true → 1 ≤ count_by p xs
  counted [] x c e = absurd (omega (arith, c.1))
  counted (y ∷ xs) x c e = elim (contains_cases y xs x c) [
    | inl same ↦ omega (arith, counted_first y xs (ap p same ∙ e))
    | inr later ↦ omega (arith, counted xs x later e, no_more y xs)
  ]

  stands : (xs : List A) (x : A) → Contains xs x → p x ≡ true → list_any p xs ≡ true
  stands xs x c e = list_any_at p xs c.0 x c.1 (ap p c.2 ∙ e)

abbrev AreFew : List Slot → Type 0
AreFew slots = list_any takes_pages slots ≡ true → count_by takes_query slots ≤ 1

are_few : (slots : List Slot) → has_query_beside_pages slots ≡ false → AreFew slots
are_few slots none some = elim (cases_lt 1 (count_by takes_query slots)) [
  | inl more ↦
      let both : has_query_beside_pages slots ≡ true =
      ap (λ (b : Bool). b && list_any takes_pages slots) (lt-ltb 1 (count_by takes_query slots) more) ∙ some in
      absurd (cc (none, both))
  | inr few ↦ omega (arith, few)
]

apart : (slots : List Slot) → AreFew slots → AllPairs ReadApart slots
apart [] few = λ i j d up low. absurd (omega (arith, low))
apart (slot ∷ slots) few =
    AllPairs-cons ReadApart slot slots (λ k d h. apart_from _ (All-contains_itself slots k d h))
    (apart slots (λ some. omega (arith, few (or_right _ _ some), no_more takes_query slot slots)))
  where
    two : (other : Slot) → Contains slots other → takes_query slot ≡ true → takes_query other ≡ true
        → 2 ≤ count_by takes_query (slot ∷ slots)
    two other c e f = omega (arith, counted_first takes_query slot slots e, counted takes_query slots other c f)

    apart_from : (other : Slot) → Contains slots other → ReadApart slot other
    apart_from other c = record {
      first = λ p q.
          let t = pages_test slot p in
          omega (arith, few (or_left _ _ t), two other c (pages_query slot t) (query_test other q));
      second = λ p q.
          let t = pages_test other p in
          omega (
            arith,
            few (or_right _ _ (stands takes_pages slots other c t)),
            two other c (query_test slot q) (pages_query other t),
          );
    }

-- ---- the fields of a struct

same_fields : (o : Option Desc) (fields : List Field) → flat_fields o ≡ Some fields → fields_of_resolved o ≡ fields
same_fields None fields e = absurd (cc e)
same_fields (Some desc) fields e = by_level (out-Desc desc) e
  where
    by_level : (z : DescLevel) → fields_by z ≡ Some fields → fields_of_level z ≡ fields
    by_level (Desc-F.Struct fs false) is = cc is
    by_level (Desc-F.Struct fs true) is = absurd (cc is)
    by_level _ is = absurd (cc is)

-- ---- each slot

module _ (tags : Configuration) (before : List DeclarationValue) (e : DeclarationValue)
    (may : MayRegister tags before e) where
  no_pages_beside
      : (has_query_beside_pages e.shape.slots || list_any (takes_page_name e.shape.table) e.shape.slots) ≡ false
  no_pages_beside =
      by_test (has_query_beside_pages e.shape.slots || list_any (takes_page_name e.shape.table) e.shape.slots) refl
    where
      by_test : (b : Bool)
          → (has_query_beside_pages e.shape.slots || list_any (takes_page_name e.shape.table) e.shape.slots) ≡ b
          → b ≡ false
      by_test true is = absurd (may.none cause.BadPagination (_, (is, refl)))
      by_test false is = refl

  -- whether or not documents show the endpoint
  pub read_apart : AllPairs ReadApart e.shape.slots
  read_apart = apart e.shape.slots (are_few e.shape.slots (neither _ _ no_pages_beside).0)

module _ (tags : Configuration) (before : List DeclarationValue) (e : DeclarationValue)
    (may : MayRegister tags before e) (visible : IsTrue e.visible) where
  abbrev table : List Definition
  table = e.shape.table

  passes : ShapePasses e.shape
  passes = (may.clear cause.UnsupportedSchema).passes

  no_wildcard : path_wildcard e.path ≡ None
  no_wildcard = by_wildcard (path_wildcard e.path) refl
    where
      by_wildcard : (o : Option (List ℕ)) → path_wildcard e.path ≡ o → o ≡ None
      by_wildcard None is = refl
      by_wildcard (Some name) is =
          absurd (may.none cause.VisibleWildcard
          (_, (record { visible = visible; wildcard = name; at_end = is }, refl)))

  scalar_parameter : (p : Parameter) → IsScalarOrRest table (path_wildcard e.path) p
      → IsScalarType table (field_of p).desc
  scalar_parameter (in_path field) (inl rest) = absurd (cc (rest, no_wildcard))
  scalar_parameter (in_path field) (inr scalar) = scalar
  scalar_parameter (in_query field) (inl rest) = absurd rest
  scalar_parameter (in_query field) (inr scalar) = scalar
  scalar_parameter (in_header field) (inl rest) = absurd rest
  scalar_parameter (in_header field) (inr scalar) = scalar

  scalar_of : (p : Parameter) → Contains (parameters e.shape) p → IsScalarType table (field_of p).desc
  scalar_of p c =
      scalar_parameter p
      (All-contains (IsScalarOrRest table (path_wildcard e.path)) (parameters e.shape) p (may.clear cause.NotScalar) c)

  required_of : (field : Field) → Contains (parameters e.shape) (in_path field) → field.presence ≡ Required
  required_of field c = by_presence field.presence refl
    where
      absent : (p : Presence) → field.presence ≡ p → p ≢ Required → ⊥
      absent p is not_required =
          none_holds MayBeAbsent (parameters e.shape) (λ q first. may.none cause.PathNotRequired (_, (q, first, refl)))
          (in_path field) c
          (λ same. not_required (sym is ∙ same))

      by_presence : (p : Presence) → field.presence ≡ p → p ≡ Required
      by_presence Required is = refl
      by_presence Nullable is = absurd (absent Nullable is (λ same. absurd (cc same)))
      by_presence Skipped is = absurd (absent Skipped is (λ same. absurd (cc same)))
      by_presence (Default tree) is = absurd (absent (Default tree) is (λ same. absurd (cc same)))

  -- a struct whose fields are parameters
  record IsOfParameters (desc : Desc) : Type 0 where
    fields : List Field
    flat : IsFlatStruct table desc fields
    same : fields_of_struct table desc ≡ fields

  of_parameters : (desc : Desc) → IsOpenStruct table desc → DescPasses table desc
      → ((field : Field) → Contains (fields_of_struct table desc) field → IsScalarType table field.desc)
      → IsOfParameters desc
  of_parameters desc opened ok scalar =
      let there = is_there (struct_fields table desc) opened in
      let same = same_fields (resolved table desc) there.0 there.1 in
      record {
        fields = there.0;
        flat = record {
          table_passes = passes.table;
          desc_passes = ok;
          has_fields = there.1;
          scalar = λ field c.
              scalar field (subst (λ fs. Contains fs field) (sym same) c);
        };
        same = same;
      }

  -- no field of what is scanned has a name that pages read
  scanned : (scan selector : Desc) (selector_table : List Definition)
      → Contains e.shape.slots (PagedQuery scan selector selector_table)
      → (fields : List Field) → fields_of_struct table scan ≡ fields → AreScanned fields
  scanned scan selector selector_table c fields same =
      let others : (field : Field) → Contains fields field
      → (bytes_eq field.name (codes "limit") ≡ false) × (bytes_eq field.name (codes "page_token") ≡ false) =
      λ field k.
      neither _ _
      (fails_of (λ f. is_page_name f.name) (fields_of_struct table scan)
      (fails_of (takes_page_name table) e.shape.slots (neither _ _ (no_pages_beside tags before e may)).1
      (PagedQuery scan selector selector_table) c) field (subst (λ fs. Contains fs field) (sym same) k)) in
      record {
        no_limit = λ field k is. absurd (cc ((others field k).0, (bytes_eq-Decides field.name (codes "limit")).1 is));
        no_token =
            λ field k is. absurd (cc ((others field k).1, (bytes_eq-Decides field.name (codes "page_token")).1 is));
      }

  body_type : (desc : Desc) → DescPasses table desc → (kind : ApiEndpointBodyContentType) → IsReadAs table desc kind
      → IsBodyType table desc kind
  body_type desc ok kinds.Json form = tt
  body_type desc ok kinds.UrlEncoded form = (
    form.fields,
    record { table_passes = passes.table; desc_passes = ok; has_fields = form.has_fields; scalar = form.scalar },
    tt,
  )
  body_type desc ok kinds.Bytes form = absurd form
  body_type desc ok kinds.MultipartFormData form = absurd form

  parameter_of : (slot : Slot) (p : Parameter) → Contains e.shape.slots slot
      → Contains (parameters_of_slot table slot) p → Contains (parameters e.shape) p
  parameter_of slot p c k = joined_of (parameters_of_slot table) e.shape.slots slot p c k

  shown_slot : (slot : Slot) → Contains e.shape.slots slot → SlotPasses table slot
      → IsShown e.body_content_type table slot
  shown_slot (Path desc) c ok =
      let there : (field : Field) → Contains (fields_of_struct table desc) field
      → Contains (parameters e.shape) (in_path field) =
      λ field k. parameter_of (Path desc) (in_path field) c (made_of in_path (fields_of_struct table desc) field k) in
      let struct =
      of_parameters desc ((may.clear cause.UnsupportedSchema).parameters (Path desc) c) ok
      (λ field k. scalar_of (in_path field) (there field k)) in (
        struct.fields,
        struct.flat,
        λ field k. required_of field (there field (subst (λ fs. Contains fs field) (sym struct.same) k)),
      )
  shown_slot (Query desc) c ok =
      let struct = of_parameters desc ((may.clear cause.UnsupportedSchema).parameters (Query desc) c) ok
      (λ field k. scalar_of (in_query field)
      (parameter_of (Query desc) (in_query field) c (made_of in_query (fields_of_struct table desc) field k))) in
      (struct.fields, struct.flat, tt)
  shown_slot (Header desc) c ok =
      let struct = of_parameters desc ((may.clear cause.UnsupportedSchema).parameters (Header desc) c) ok
      (λ field k. scalar_of (in_header field)
      (parameter_of (Header desc) (in_header field) c (made_of in_header (fields_of_struct table desc) field k))) in
      (struct.fields, struct.flat, tt)
  shown_slot (PagedQuery scan selector selector_table) c ok =
      let slot = PagedQuery scan selector selector_table in
      let struct = of_parameters scan ((may.clear cause.UnsupportedSchema).parameters slot c) ok.0
      (λ field k. scalar_of (in_query field)
      (parameter_of slot (in_query field) c (made_of in_query (fields_of_struct table scan) field k))) in
      (struct.fields, struct.flat, scanned scan selector selector_table c struct.fields struct.same)
  shown_slot (TypedBody desc name) c ok =
      body_type desc ok e.body_content_type
      (All-contains (TakesReadBody table e.body_content_type) e.shape.slots (TypedBody desc name)
      (may.clear cause.BadBodyForm) c)
  shown_slot RawBody c ok = tt
  shown_slot StreamBody c ok = tt

  pub shown_slots : HasShownSlots e
  shown_slots = record {
    each = λ k d h. let c =
        All-contains_itself e.shape.slots k d h in shown_slot _ c
        (All-contains (SlotPasses table) e.shape.slots _ passes.slots c);
    pages = read_apart tags before e may;
    last = may.clear cause.TwoBodies;
  }
