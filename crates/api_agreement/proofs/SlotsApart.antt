-- An operation answers in pages as its first slot of pages says, and takes the body that its first slot of a body says.
-- Where slots stand together as they may, each says it alone.
use Rattle.std.proofs.Common.{◌≡◌, ℕ, true, false, List, [], ◌∷◌, ◌++◌, Option, Some, None, IfSome, is_some, refl, sym}
use Rattle.std.proofs.Common.{◌∙◌, ap, subst, append_assoc, arith, inl, inr}
use Rattle.std.specs.List.{AllByRecursion, flat_map}
use Rattle.std.specs.Option.{option_or}
use Rattle.std.specs.Prelude.{AllPairs, Contains}
use Rattle.schema_values.proofs.CallerLemmas.{contains_cases, contains_first, contains_later}
use Rattle.openapi_values.specs.declared.media.RequestBody.{RequestBody}
use Rattle.descriptors.specs.declared.desc.Desc.{Desc}
use Rattle.descriptors.specs.declared.table.Definition.{Definition}
use Rattle.request_parts.specs.declared.content_type.ApiEndpointBodyContentType.{ApiEndpointBodyContentType}
use Rattle.handler_shapes.specs.declared.slot.Slot.{Slot}
use Rattle.handler_shapes.specs.declared.slot.Slot.TheVariants.{Path, Query, Header, PagedQuery, TypedBody, RawBody}
use Rattle.handler_shapes.specs.declared.slot.Slot.TheVariants.{StreamBody}
use Rattle.handler_shapes.specs.BodySlots.{BodyComesLast, takes_body}
use Rattle.endpoint_metadata.specs.Modes.{asked_names, first_asked}
use Rattle.endpoint_metadata.specs.Shown.{body_documented}
use Rattle.api_documents.specs.Bodies.{body_of}
use Rattle.api_documents.proofs.CallerLemmas.{first_pair, later_pairs}
use Rattle.api_agreement.specs.ShownSlots.{IsOfPages, IsOfQuery, ReadApart}
use Rattle.api_agreement.proofs.Each.{one_of, front_of, behind_of}

-- ---- pages

query_of : (slot : Slot) → IsOfPages slot → IsOfQuery slot
query_of (PagedQuery scan selector selector_table) p = tt
query_of (Path desc) p = absurd p
query_of (Query desc) p = tt
query_of (Header desc) p = absurd p
query_of (TypedBody desc name) p = absurd p
query_of RawBody p = absurd p
query_of StreamBody p = absurd p

module _ (table : List Definition) where
  of_pages : (slot : Slot) (names : List (List ℕ)) → asked_names table slot ≡ Some names → IsOfPages slot
  of_pages (PagedQuery scan selector selector_table) names is = tt
  of_pages (Path desc) names is = absurd (cc is)
  of_pages (Query desc) names is = absurd (cc is)
  of_pages (Header desc) names is = absurd (cc is)
  of_pages (TypedBody desc name) names is = absurd (cc is)
  of_pages RawBody names is = absurd (cc is)
  of_pages StreamBody names is = absurd (cc is)

  not_of_pages : (slot : Slot) → ¬ IsOfPages slot → asked_names table slot ≡ None
  not_of_pages (PagedQuery scan selector selector_table) none = absurd (none tt)
  not_of_pages (Path desc) none = refl
  not_of_pages (Query desc) none = refl
  not_of_pages (Header desc) none = refl
  not_of_pages (TypedBody desc name) none = refl
  not_of_pages RawBody none = refl
  not_of_pages StreamBody none = refl

  none_of_pages : (slots : List Slot) → ((slot : Slot) → Contains slots slot → ¬ IsOfPages slot)
      → first_asked table slots ≡ None
  none_of_pages [] none = refl
  none_of_pages (slot ∷ slots) none =
      ap (λ (o : Option (List (List ℕ))). option_or o (first_asked table slots))
      (not_of_pages slot (none slot (contains_first slot slots)))
      ∙ none_of_pages slots (λ other c. none other (contains_later slot slots other c))

  -- beside a slot of the query none is of pages
  pub beside_query : (slots : List Slot) → AllPairs ReadApart slots → (desc : Desc) → Contains slots (Query desc)
      → first_asked table slots ≡ None
  beside_query [] apart desc c = absurd (omega (arith, c.1))
  beside_query (slot ∷ slots) apart desc c = elim (contains_cases slot slots (Query desc) c) [
    | inl same ↦
        ap (λ (s : Slot). first_asked table (s ∷ slots)) same
        ∙ none_of_pages slots
        (λ other k p. (first_pair ReadApart slot slots apart other k).second p (subst IsOfQuery (sym same) tt))
    | inr later ↦
        ap (λ (o : Option (List (List ℕ))). option_or o (first_asked table slots))
        (not_of_pages slot (λ p. (first_pair ReadApart slot slots apart (Query desc) later).first p tt))
        ∙ beside_query slots (later_pairs ReadApart slot slots apart) desc later
  ]

  some_behind : {Y : Type 0} (o other : Option Y) → is_some other ≡ true → is_some (option_or o other) ≡ true
  some_behind None other h = h
  some_behind (Some y) other h = refl

  -- with a slot of pages an operation answers in pages
  pub answers_in_pages : (slots : List Slot) (scan selector : Desc) (selector_table : List Definition)
      → Contains slots (PagedQuery scan selector selector_table) → is_some (first_asked table slots) ≡ true
  answers_in_pages [] scan selector selector_table c = absurd (omega (arith, c.1))
  answers_in_pages (slot ∷ slots) scan selector selector_table c =
      elim (contains_cases slot slots (PagedQuery scan selector selector_table) c) [
        | inl same ↦ ap (λ (s : Slot). is_some (first_asked table (s ∷ slots))) same
        | inr later ↦ some_behind (asked_names table slot) (first_asked table slots)
            (answers_in_pages slots scan selector selector_table later)
      ]

  module _ (P : List (List ℕ) → Type 0) where
    pub pages_to : (slots : List Slot) → AllPairs ReadApart slots → IfSome (first_asked table slots) P
        → AllByRecursion (λ slot. IfSome (asked_names table slot) P) slots
    pages_to [] apart h = tt
    pages_to (slot ∷ slots) apart h = (
      front_of P (asked_names table slot) (first_asked table slots) h,
      pages_to slots (later_pairs ReadApart slot slots apart)
          (behind_of P (asked_names table slot) (first_asked table slots)
          (λ names is. none_of_pages slots
          (λ other c p. (first_pair ReadApart slot slots apart other c).first (of_pages slot names is)
          (query_of other p))) h),
    )

    pub pages_from : (slots : List Slot) → AllByRecursion (λ slot. IfSome (asked_names table slot) P) slots
        → IfSome (first_asked table slots) P
    pages_from [] h = tt
    pages_from (slot ∷ slots) h = one_of P (asked_names table slot) (first_asked table slots) h.0 (pages_from slots h.1)

-- ---- the body

module _ (kind : ApiEndpointBodyContentType) (table : List Definition) where
  no_body : (slot : Slot) → takes_body slot ≡ false → body_documented kind table slot ≡ None
  no_body (Path desc) none = refl
  no_body (Query desc) none = refl
  no_body (Header desc) none = refl
  no_body (PagedQuery scan selector selector_table) none = refl
  no_body (TypedBody desc name) none = absurd (cc none)
  no_body RawBody none = absurd (cc none)
  no_body StreamBody none = absurd (cc none)

  module _ (P : RequestBody → Type 0) where
    pub body_to : (slots : List Slot) → BodyComesLast slots → IfSome (body_of kind table slots) P
        → AllByRecursion (λ slot. IfSome (body_documented kind table slot) P) slots
    body_to [] last h = tt
    body_to (slot ∷ []) last h = (front_of P (body_documented kind table slot) None h, tt)
    body_to (slot ∷ next ∷ slots) last h =
        let none = no_body slot last.0 in (
          subst (λ (o : Option RequestBody). IfSome o P) (sym none) tt,
          body_to (next ∷ slots) last.1
              (subst (λ (o : Option RequestBody). IfSome (option_or o (body_of kind table (next ∷ slots))) P) none h),
        )

    pub body_from : (slots : List Slot) → AllByRecursion (λ slot. IfSome (body_documented kind table slot) P) slots
        → IfSome (body_of kind table slots) P
    body_from [] h = tt
    body_from (slot ∷ slots) h =
        one_of P (body_documented kind table slot) (body_of kind table slots) h.0 (body_from slots h.1)

-- ---- where a slot stands among others

-- what is made of a thing stands between what is made of those before it and behind it
pub between : {X Y : Type 0} (f : X → List Y) (xs : List X) (x : X) → Contains xs x
    → (before : List Y) × (after : List Y) × (flat_map f xs ≡ before ++ f x ++ after)
between f [] x c = absurd (omega (arith, c.1))
between f (y ∷ xs) x c = elim (contains_cases y xs x c) [
  | inl same ↦ ([], flat_map f xs, ap (λ z. f z ++ flat_map f xs) same)
  | inr later ↦
      let rest = between f xs x later in (
        f y ++ rest.0,
        rest.1,
        ap (λ zs. f y ++ zs) rest.2
            ∙ sym (append_assoc (f y) (rest.0 ++ f x) rest.1)
            ∙ ap (λ zs. zs ++ rest.1) (sym (append_assoc (f y) rest.0 (f x))),
      )
]
