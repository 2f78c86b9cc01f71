-- The names to which the schemas of an operation lead are reached from the descriptors of which they are drawn.
use Rattle.std.proofs.Common.{◌≡◌, ◌⊎◌, ℕ, zero, suc, Bool, true, false, cond, List, [], ◌∷◌, ◌++◌, map, length, Option}
use Rattle.std.proofs.Common.{Some, None, option_map, refl, sym, ◌∙◌, ap, subst, inl, inr, arith}
use Rattle.std.specs.Prelude.{All, Contains, IsSome}
use Rattle.std.specs.BTreeMap.{is_at}
use Rattle.std.specs.List.{flat_map}
use Rattle.std.specs.Option.{option_or}
use Rattle.std.proofs.lemmas.Bool.{or_cases, true≢false}
use Rattle.std.proofs.lemmas.List.Elements.{All-contains}
use Rattle.std.proofs.lemmas.List.Folds.{list_any-append}
use Rattle.schema_values.specs.Sound.{AreDistinct}
use Rattle.schema_values.proofs.CallerLemmas.{contains_cases, contains_first, contains_later}
use Rattle.descriptors.specs.declared.desc.Desc.{Desc}
use Rattle.descriptors.specs.declared.desc.Field.{Field}
use Rattle.descriptors.specs.declared.table.Definition.{Definition}
use Rattle.descriptors.specs.Definitions.{definition_name, entry_of}
use Rattle.descriptors.proofs.CallerLemmas.{other_name, same_name}
use Rattle.typed_values.specs.Checks.{TablePasses}
use Rattle.typed_values.specs.Reached.{Mentions, IsReached, directly, through}
use Rattle.openapi_values.specs.declared.info.Info.{Info}
use Rattle.openapi_values.specs.Find.{definition_in}
use Rattle.handler_shapes.specs.declared.shape.ApiEndpointErrorResponse.{ApiEndpointErrorResponse}
use Rattle.handler_shapes.specs.declared.shape.ContentShape.{ContentShape}
use Rattle.handler_shapes.specs.declared.shape.ContentShape.TheVariants as contents
use Rattle.handler_shapes.specs.declared.shape.HandlerShape.{HandlerShape}
use Rattle.handler_shapes.specs.declared.slot.Slot.{Slot}
use Rattle.handler_shapes.specs.declared.slot.Slot.TheVariants.{Path, Query, Header, PagedQuery, TypedBody, RawBody}
use Rattle.handler_shapes.specs.declared.slot.Slot.TheVariants.{StreamBody}
use Rattle.handler_shapes.specs.ShapeChecks.{ShapePasses}
use Rattle.api_declarations.specs.Values.{DeclarationValue}
use Rattle.endpoint_metadata.specs.Structs.{listed_fields}
use Rattle.api_documents.specs.Components.{schema_entries}
use Rattle.api_documents.specs.Defines.{LeadsToDefinition}
use Rattle.api_documents.specs.Documents.{document_listing}
use Rattle.api_documents.specs.Drawn.{IsDrawn, as_body, as_content, as_error, as_header, as_parameter, shown_fields}
use Rattle.api_documents.specs.ErrorNames.{listed_error}
use Rattle.api_documents.specs.Ordered.{by_name, is_among, text_order}
use Rattle.api_documents.specs.References.{Names, reached_within, references, references_in_fields, referred_by}
use Rattle.api_documents.specs.References.{roots_of, roots_of_content, roots_of_error, roots_of_headers, roots_of_slot}
use Rattle.api_documents.specs.Tags.{Configured}
use Rattle.api_documents.proofs.Among.{among_texts}
use Rattle.api_documents.proofs.Joined.{each_mapped}
use Rattle.api_documents.proofs.MentionedBack.{from_joined, mentioned_back}
use Rattle.api_documents.proofs.SchemasFound.{found, found_all, found_joined, leads_to, own_found, schema_of}
use Rattle.api_documents.proofs.SchemasFound.{value_found}

-- where names are distinct, each definition is the one of its name
entry_itself : (es : List Definition) (e : Definition) → AreDistinct (map definition_name es) → Contains es e
    → entry_of es e.name ≡ Some e
entry_itself [] e once c = absurd (omega (arith, c.1))
entry_itself (x ∷ es) e once c = elim (contains_cases x es e c) [
  | inl q ↦ rw (q, same_name e.name) refl
  | inr k ↦
      let differ = each_mapped (λ other. x.name ≡ other → ⊥) definition_name es e once.0 k in
      rw (other_name x.name e.name differ) (entry_itself es e once.1 k)
]

-- ---- what the schemas of an operation refer to is mentioned where they are drawn

module _ (shape : HandlerShape) (name : List ℕ) where
  abbrev pub IsMentioned : Type 0
  IsMentioned = (desc : Desc) × IsDrawn shape desc × Mentions desc name

  split : (xs ys : Names) → is_among name (xs ++ ys) ≡ true
      → (is_among name xs ≡ true) ⊎ (is_among name ys ≡ true)
  split xs ys h =
      or_cases (is_among name xs) (is_among name ys) (sym (list_any-append (is_at (text_order name)) xs ys) ∙ h)

  in_shown : (slot : Slot) → Contains shape.slots slot
      → is_among name (references_in_fields (shown_fields shape.table slot)) ≡ true → IsMentioned
  in_shown slot c h =
      let field = from_joined name (λ (f : Field). references f.desc) (shown_fields shape.table slot) h in
      (field.0.desc, as_parameter slot field.0 c field.1, mentioned_back name field.0.desc field.2)

  of_slot : (slot : Slot) → Contains shape.slots slot → is_among name (roots_of_slot shape.table slot) ≡ true
      → IsMentioned
  of_slot (Path desc) c h = in_shown (Path desc) c h
  of_slot (Query desc) c h = in_shown (Query desc) c h
  of_slot (Header desc) c h = in_shown (Header desc) c h
  of_slot (PagedQuery scan selector selector_table) c h = in_shown (PagedQuery scan selector selector_table) c h
  of_slot (TypedBody desc type) c h = (desc, as_body desc type c, mentioned_back name desc h)
  of_slot RawBody c h = absurd (true≢false (sym h))
  of_slot StreamBody c h = absurd (true≢false (sym h))

  of_content : (content : ContentShape) → shape.response.content ≡ content
      → is_among name (roots_of_content content) ≡ true → IsMentioned
  of_content (contents.Json desc type) is h = (desc, as_content desc type is, mentioned_back name desc h)
  of_content contents.Empty is h = absurd (true≢false (sym h))
  of_content contents.Freeform is h = absurd (true≢false (sym h))

  of_headers : (o : Option Desc) → shape.response.headers ≡ o
      → is_among name (roots_of_headers shape.table o) ≡ true → IsMentioned
  of_headers None is h = absurd (true≢false (sym h))
  of_headers (Some struct) is h =
      let field = from_joined name (λ (f : Field). references f.desc) (listed_fields shape.table struct) h in
      (field.0.desc, as_header struct field.0 is field.1, mentioned_back name field.0.desc field.2)

  of_error : (o : Option ApiEndpointErrorResponse) → listed_error shape ≡ o → is_among name (roots_of_error o) ≡ true
      → IsMentioned
  of_error None is h = absurd (true≢false (sym h))
  of_error (Some error) is h = (error.desc, as_error error is, mentioned_back name error.desc h)

  of_roots : is_among name (roots_of shape) ≡ true → IsMentioned
  of_roots h = elim (split (flat_map (roots_of_slot shape.table) shape.slots) _ h) [
    | inl slots ↦
        let slot = from_joined name (roots_of_slot shape.table) shape.slots slots in
        of_slot slot.0 slot.1 slot.2
    | inr behind ↦ elim (split (roots_of_content shape.response.content) _ behind) [
      | inl content ↦ of_content shape.response.content refl content
      | inr later ↦ elim (split (roots_of_headers shape.table shape.response.headers) _ later) [
        | inl headers ↦ of_headers shape.response.headers refl headers
        | inr error ↦ of_error (listed_error shape) refl error
      ]
    ]
  ]

-- ---- step by step

module _ (shape : HandlerShape) (passes : TablePasses shape.table) where
  abbrev IsLed : List ℕ → Type 0
  IsLed name = (desc : Desc) × IsDrawn shape desc × IsReached shape.table desc name

  abbrev within : ℕ → List (List ℕ)
  within n = reached_within shape.table (roots_of shape) n

  one_further : (name : List ℕ) (e : Definition) → Contains shape.table e → (b : Bool)
      → (b ≡ true → IsLed e.name) → is_among name (cond b (references e.desc) []) ≡ true → IsLed name
  one_further name e c false before h = absurd (true≢false (sym h))
  one_further name e c true before h =
      let led = before refl in (
        led.0,
        led.1,
        through e.name name e led.2 (entry_itself shape.table e passes.once c) (mentioned_back name e.desc h),
      )

  reached_back : (n : ℕ) (name : List ℕ) → is_among name (within n) ≡ true → IsLed name
  reached_back zero name h =
      let root = of_roots shape name (sym (among_texts name (roots_of shape) []) ∙ h) in
      (root.0, root.1, directly name root.2)
  reached_back (suc n) name h =
      elim (or_cases (is_among name (within n)) (is_among name (referred_by (within n) shape.table))
      (sym (among_texts name (referred_by (within n) shape.table) (within n)) ∙ h)) [
        | inl before ↦ reached_back n name before
        | inr after ↦
            let some = from_joined name
            (λ (e : Definition). cond (is_among e.name (within n)) (references e.desc) []) shape.table after in
            one_further name some.0 some.1 (is_among some.0.name (within n)) (reached_back n some.0.name) some.2
      ]

-- ---- the document

module _ (name : List ℕ) where
  led_by_one : (ds : List DeclarationValue) → IsSome (found name (flat_map schema_entries ds))
      → (d : DeclarationValue) × Contains ds d × (leads_to d name ≡ true)
  led_by_one [] some = absurd (cc some)
  led_by_one (first ∷ ds) some =
      by_first (leads_to first name) refl
      (subst IsSome (found_joined name (schema_entries first) (flat_map schema_entries ds)) some) (led_by_one ds)
    where
      by_first : (b : Bool) → leads_to first name ≡ b
          → IsSome (option_or (found name (schema_entries first)) (found name (flat_map schema_entries ds)))
          → (IsSome (found name (flat_map schema_entries ds))
          → (d : DeclarationValue) × Contains ds d × (leads_to d name ≡ true))
          → (d : DeclarationValue) × Contains (first ∷ ds) d × (leads_to d name ≡ true)
      by_first true e some rest = (first, contains_first first ds, e)
      by_first false e some rest =
          let none : found name (schema_entries first) ≡ None =
          own_found name first
          ∙ ap (λ (b : Bool). cond b
          (option_map (schema_of first.shape.table) (entry_of first.shape.table name)) None) e in
          let later = rest
          (subst IsSome (ap (λ o. option_or o (found name (flat_map schema_entries ds))) none) some) in
          (later.0, contains_later first ds later.0 later.1, later.2)

-- a document has no definition but those that a descriptor leads to of which a listed operation is drawn
pub defines_no_more : (ds : List DeclarationValue) (configured : Configured) (info : Info)
    → All (λ (d : DeclarationValue). ShapePasses d.shape) ds → (name : List ℕ)
    → IsSome (definition_in (document_listing ds configured info) name)
    → (d : DeclarationValue) × Contains ds d × LeadsToDefinition d.shape name
defines_no_more ds configured info ok name some =
    let here = led_by_one name ds
    (subst IsSome
    (value_found name (by_name (flat_map schema_entries ds)) ∙ found_all name (flat_map schema_entries ds) []) some) in
    let d = here.0 in
    let passes = All-contains (λ (d : DeclarationValue). ShapePasses d.shape) ds d ok here.1 in
    let led = reached_back d.shape passes.table (length d.shape.table) name here.2 in
    (d, here.1, record { desc = led.0; drawn = led.1; reached = led.2 })
