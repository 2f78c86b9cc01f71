-- The schemas of a document by their names: those of the definitions that the operations of listed endpoints reach.
use Rattle.std.proofs.Common.{◌≡◌, ℕ, List, [], ◌∷◌, ◌++◌, length, map, filter, fold, Bool, true, false, cond, Option}
use Rattle.std.proofs.Common.{Some, None, is_some, option_map, bytes_eq, refl, sym, ◌∙◌, ap, subst, inl, inr, arith}
use Rattle.std.specs.Prelude.{All, Contains, find}
use Rattle.std.specs.declared.cmp.Ordering.{Ordering}
use Rattle.std.specs.declared.cmp.Ordering.TheVariants.{Less, Equal, Greater}
use Rattle.std.specs.BTreeMap.{insert_entry, is_at}
use Rattle.std.specs.List.{flat_map}
use Rattle.std.specs.Map.{lookup}
use Rattle.std.specs.Option.{option_or}
use Rattle.std.specs.Ordering.{is_eq, match_ordering}
use Rattle.std.proofs.lemmas.Cmp.{nat_list_cmp_total, tied_itself}
use Rattle.std.proofs.lemmas.List.Elements.{All-head, All-tail}
use Rattle.std.proofs.lemmas.Map.Text.{is_eq-slice_cmp}
use Rattle.std.proofs.lemmas.Slice.Eq.{bytes_eq-Decides}
use Rattle.schema_values.specs.declared.json_value.Json.{Json}
use Rattle.schema_values.proofs.CallerLemmas.{contains_cases}
use Rattle.descriptors.specs.declared.desc.Desc.{Desc}
use Rattle.descriptors.specs.declared.table.Definition.{Definition}
use Rattle.descriptors.specs.Definitions.{entry_of}
use Rattle.typed_values.specs.SchemaTable.{schema_json_described}
use Rattle.openapi_values.specs.declared.info.Info.{Info}
use Rattle.openapi_values.specs.Document.{open_api_json}
use Rattle.openapi_values.specs.Find.{value_at}
use Rattle.openapi_values.proofs.CallerLemmas.{definition-stands}
use Rattle.written_schemas.specs.Reached.{DefinesReached}
use Rattle.handler_shapes.specs.ShapeChecks.{ShapePasses}
use Rattle.api_declarations.specs.Values.{DeclarationValue}
use Rattle.api_documents.specs.Accepted.{TablesAgree, DefinitionsAgree}
use Rattle.api_documents.specs.Components.{schema_entry, schema_entries, components_of}
use Rattle.api_documents.specs.Documents.{document_listing, errors_of}
use Rattle.api_documents.specs.Drawn.{IsDrawn}
use Rattle.api_documents.specs.ErrorNames.{NamedErrorValue}
use Rattle.api_documents.specs.Ordered.{text_order, is_among, with_entry, by_name}
use Rattle.api_documents.specs.References.{reached_within, roots_of}
use Rattle.api_documents.specs.Tags.{Configured}
use Rattle.api_documents.proofs.Among.{same_text}
use Rattle.api_documents.proofs.Chosen.{first_pair, later_pairs}
use Rattle.api_documents.proofs.Covered.{covered}
use Rattle.api_documents.proofs.PlacesFound.{swapped_test}
use Rattle.api_documents.proofs.Roots.{in_roots}
use Rattle.api_documents.proofs.SameSchemas.{shared_schema}

either_way : {X : Type 0} (b : Bool) (o : Option X) → o ≡ cond b o o
either_way true o = refl
either_way false o = refl

-- ---- the value of a name, among entries by names

-- a name is not that of two entries in order
not_both : (name k l : List ℕ) → text_order k l ≡ Greater → is_at (text_order name) l ≡ true
    → is_at (text_order name) k ≡ true → ⊥
not_both name k l e f g =
    let tied : text_order k k ≡ Equal = tied_itself nat_list_cmp_total k in
    let same : k ≡ l = sym (same_text name k g) ∙ same_text name l f in
    let greater : text_order k k ≡ Greater = ap (text_order k) same ∙ e in
    absurd (cc)

module _ {X : Type 0} where
  set_again : (b : Bool) (x y o : Option X) → cond b x o ≡ cond b x (cond b y o)
  set_again true x y o = refl
  set_again false x y o = refl

  swapped : (a b : Bool) (x y o : Option X) → (a ≡ true → b ≡ true → ⊥) → cond a x (cond b y o) ≡ cond b y (cond a x o)
  swapped true true x y o h = absurd (h refl refl)
  swapped true false x y o h = refl
  swapped false true x y o h = refl
  swapped false false x y o h = refl

  or_none : (o : Option X) → o ≡ option_or o None
  or_none None = refl
  or_none (Some x) = refl

  or_kept : (o p : Option X) → is_some o ≡ true → o ≡ option_or o p
  or_kept None p h = absurd (cc h)
  or_kept (Some x) p h = refl

  or_taken : (o p : Option X) → is_some o ≡ false → p ≡ option_or o p
  or_taken None p h = refl
  or_taken (Some x) p h = absurd (cc h)

  or_assoc : (o p : Option X) (b : Bool) (x : X)
      → option_or (option_or o (cond b (Some x) None)) p ≡ option_or o (cond b (Some x) p)
  or_assoc (Some y) p b x = refl
  or_assoc None p true x = refl
  or_assoc None p false x = refl

module _ {X : Type 0} (name : List ℕ) where
  abbrev pub found : List (List ℕ × X) → Option X
  found entries = lookup (is_at (text_order name)) entries

  pub value_found : (entries : List (List ℕ × X)) → value_at name entries ≡ found entries
  value_found [] = refl
  value_found (entry ∷ entries) =
      rw (is_eq-slice_cmp name entry.0)
      (by_test (bytes_eq name entry.0) (find (λ pair. bytes_eq name pair.0) entries) (value_found entries))
    where
      by_test : (b : Bool) (o : Option (List ℕ × X)) → option_map (λ pair. pair.1) o ≡ found entries
          → option_map (λ pair. pair.1) (cond b (Some entry) o) ≡ cond b (Some entry.1) (found entries)
      by_test true o h = refl
      by_test false o h = h

  found_inserted : (k : List ℕ) (v : X) (entries : List (List ℕ × X))
      → found (insert_entry text_order entries k v) ≡ cond (is_at (text_order name) k) (Some v) (found entries)
  found_inserted k v [] = refl
  found_inserted k v (first ∷ rest) = by_order (text_order k first.0) refl (found_inserted k v rest)
    where
      by_order : (o : Ordering) → text_order k first.0 ≡ o
          → found (insert_entry text_order rest k v) ≡ cond (is_at (text_order name) k) (Some v) (found rest)
          → found (match_ordering o ((k, v) ∷ first ∷ rest) ((first.0, v) ∷ rest)
          (first ∷ insert_entry text_order rest k v))
          ≡ cond (is_at (text_order name) k) (Some v) (found (first ∷ rest))
      by_order Less e h = refl
      by_order Equal e h =
          set_again (is_at (text_order name) first.0) (Some v) (Some first.1) (found rest)
          ∙ ap (λ (l : List ℕ). cond (is_at (text_order name) l) (Some v) (found (first ∷ rest)))
          (sym (same_text k first.0 (ap is_eq e)))
      by_order Greater e h =
          ap (λ (o : Option X). cond (is_at (text_order name) first.0) (Some first.1) o) h
          ∙ swapped (is_at (text_order name) first.0) (is_at (text_order name) k) (Some first.1) (Some v) (found rest)
          (not_both name k first.0 e)

  found_with : (entries : List (List ℕ × X)) (x : List ℕ × X)
      → found (with_entry entries x) ≡ option_or (found entries) (cond (is_at (text_order name) x.0) (Some x.1) None)
  found_with entries x =
      by_tests (is_some (lookup (is_at (text_order x.0)) entries)) (is_at (text_order name) x.0) refl refl
    where
      same_entries : is_at (text_order name) x.0 ≡ true
          → is_some (found entries) ≡ is_some (lookup (is_at (text_order x.0)) entries)
      same_entries f = ap (λ (l : List ℕ). is_some (lookup (is_at (text_order l)) entries)) (same_text name x.0 f)

      by_tests : (b c : Bool) → is_some (lookup (is_at (text_order x.0)) entries) ≡ b → is_at (text_order name) x.0 ≡ c
          → found (cond b entries (insert_entry text_order entries x.0 x.1))
          ≡ option_or (found entries) (cond c (Some x.1) None)
      by_tests true true e f = or_kept (found entries) (Some x.1) (same_entries f ∙ e)
      by_tests true false e f = or_none (found entries)
      by_tests false true e f =
          found_inserted x.0 x.1 entries ∙ ap (λ (c : Bool). cond c (Some x.1) (found entries)) f
          ∙ or_taken (found entries) (Some x.1) (same_entries f ∙ e)
      by_tests false false e f =
          found_inserted x.0 x.1 entries ∙ ap (λ (c : Bool). cond c (Some x.1) (found entries)) f
          ∙ or_none (found entries)

  -- the first of a name stands
  pub found_all : (xs entries : List (List ℕ × X))
      → found (fold with_entry entries xs) ≡ option_or (found entries) (found xs)
  found_all [] entries = or_none (found entries)
  found_all (x ∷ xs) entries =
      found_all xs (with_entry entries x)
      ∙ ap (λ (o : Option X). option_or o (found xs)) (found_with entries x)
      ∙ or_assoc (found entries) (found xs) (is_at (text_order name) x.0) x.1

-- ---- the definitions that are reached

pub schema_of : List Definition → Definition → Json
schema_of table e = schema_json_described table e.description e.desc

module _ (table : List Definition) (name : List ℕ) (q : List ℕ → Bool) where
  found_filtered : (es : List Definition)
      → found name (map (schema_entry table) (filter (λ e. q e.name) es))
      ≡ cond (q name) (option_map (schema_of table) (entry_of es name)) None
  unfolding schema_of
  found_filtered [] = either_way (q name) None
  found_filtered (e ∷ es) = by_tests (q e.name) (bytes_eq e.name name) refl refl (found_filtered es)
    where
      by_tests : (b c : Bool) → q e.name ≡ b → bytes_eq e.name name ≡ c
          → found name (map (schema_entry table) (filter (λ e. q e.name) es))
          ≡ cond (q name) (option_map (schema_of table) (entry_of es name)) None
          → found name (map (schema_entry table) (cond b (e ∷ filter (λ e. q e.name) es) (filter (λ e. q e.name) es)))
          ≡ cond (q name) (option_map (schema_of table) (cond c (Some e) (entry_of es name))) None
      by_tests true true f g h =
          let here : q name ≡ true = ap q (sym ((bytes_eq-Decides e.name name).0 g)) ∙ f in
          ap (λ (b : Bool). cond b (Some (schema_of table e))
          (found name (map (schema_entry table) (filter (λ e. q e.name) es))))
          (is_eq-slice_cmp name e.name ∙ swapped_test name e.name ∙ g)
          ∙ sym (ap (λ (b : Bool). cond b (Some (schema_of table e)) None) here)
      by_tests true false f g h =
          ap (λ (b : Bool). cond b (Some (schema_of table e))
          (found name (map (schema_entry table) (filter (λ e. q e.name) es))))
          (is_eq-slice_cmp name e.name ∙ swapped_test name e.name ∙ g)
          ∙ h
      by_tests false true f g h =
          let here : q name ≡ false = ap q (sym ((bytes_eq-Decides e.name name).0 g)) ∙ f in
          h ∙ ap (λ (b : Bool). cond b (option_map (schema_of table) (entry_of es name)) None) here
          ∙ sym (ap (λ (b : Bool). cond b (Some (schema_of table e)) None) here)
      by_tests false false f g h = h

-- ---- the definitions that the operations of several endpoints reach

-- whether the schemas of an endpoint's operation lead to a name
abbrev pub leads_to : DeclarationValue → List ℕ → Bool
leads_to d name = is_among name (reached_within d.shape.table (roots_of d.shape) (length d.shape.table))

module _ (name : List ℕ) where
  pub found_joined : {X : Type 0} (xs ys : List (List ℕ × X))
      → found name (xs ++ ys) ≡ option_or (found name xs) (found name ys)
  found_joined [] ys = refl
  found_joined (x ∷ xs) ys = by_test (is_at (text_order name) x.0) (found_joined xs ys)
    where
      by_test : (b : Bool) → found name (xs ++ ys) ≡ option_or (found name xs) (found name ys)
          → cond b (Some x.1) (found name (xs ++ ys)) ≡ option_or (cond b (Some x.1) (found name xs)) (found name ys)
      by_test true h = refl
      by_test false h = h

  pub own_found : (d : DeclarationValue)
      → found name (schema_entries d)
      ≡ cond (leads_to d name) (option_map (schema_of d.shape.table) (entry_of d.shape.table name)) None
  own_found d = found_filtered d.shape.table name (leads_to d) d.shape.table

  module _ (d : DeclarationValue) (e : Definition) (passes : ShapePasses d.shape)
      (is : entry_of d.shape.table name ≡ Some e) where
    abbrev own : Json
    own = schema_of d.shape.table e

    here : leads_to d name ≡ true → (rest : Option Json) → option_or (found name (schema_entries d)) rest ≡ Some own
    here leads rest =
        ap (λ (o : Option Json). option_or o rest)
        (own_found d
        ∙ ap (λ (b : Bool). cond b (option_map (schema_of d.shape.table) (entry_of d.shape.table name)) None) leads
        ∙ ap (option_map (schema_of d.shape.table)) is)

    -- another endpoint's, before it, is the same
    earlier : (first : DeclarationValue) → ShapePasses first.shape → TablesAgree first.shape.table d.shape.table
        → (rest : Option Json) → rest ≡ Some own → option_or (found name (schema_entries first)) rest ≡ Some own
    unfolding schema_of
    earlier first ok agree rest later =
        ap (λ (o : Option Json). option_or o rest) (own_found first)
        ∙ by_entry (leads_to first name) (entry_of first.shape.table name) refl
      where
        by_entry : (b : Bool) (o : Option Definition) → entry_of first.shape.table name ≡ o
            → option_or (cond b (option_map (schema_of first.shape.table) o) None) rest ≡ Some own
        by_entry false o f = later
        by_entry true None f = later
        by_entry true (Some x) f =
            ap Some (shared_schema first.shape.table d.shape.table ok.table passes.table agree name x e f is)

    all_found : (ds : List DeclarationValue) → All (λ (other : DeclarationValue). ShapePasses other.shape) ds
        → DefinitionsAgree ds → Contains ds d → leads_to d name ≡ true
        → found name (flat_map schema_entries ds) ≡ Some own
    all_found [] ok agree c leads = absurd (omega (arith, c.1))
    all_found (first ∷ ds) ok agree c leads =
        found_joined (schema_entries first) (flat_map schema_entries ds)
        ∙ elim (contains_cases first ds d c) [
          | inl same ↦ ap
              (λ (x : DeclarationValue). option_or (found name (schema_entries x))
              (found name (flat_map schema_entries ds))) same ∙ here leads (found name (flat_map schema_entries ds))
          | inr later ↦ earlier first (All-head (λ (x : DeclarationValue). ShapePasses x.shape) first ds ok)
              (first_pair (λ (x y : DeclarationValue). TablesAgree x.shape.table y.shape.table) first ds agree d later)
              (found name (flat_map schema_entries ds))
              (all_found ds (All-tail (λ (x : DeclarationValue). ShapePasses x.shape) first ds ok)
              (later_pairs (λ (x y : DeclarationValue). TablesAgree x.shape.table y.shape.table) first ds agree)
              later leads)
        ]

  -- a document has the schema of each definition that an endpoint's operation reaches, as drawn under the endpoint's
  -- table
  pub schema_found : (named : List NamedErrorValue) (ds : List DeclarationValue)
      → All (λ (other : DeclarationValue). ShapePasses other.shape) ds → DefinitionsAgree ds
      → (d : DeclarationValue) → Contains ds d → ShapePasses d.shape → leads_to d name ≡ true → (e : Definition)
      → entry_of d.shape.table name ≡ Some e
      → value_at name (components_of named ds).schemas ≡ Some (schema_json_described d.shape.table e.description e.desc)
  unfolding schema_of
  schema_found named ds ok agree d c passes leads e is =
      value_found name (by_name (flat_map schema_entries ds))
      ∙ found_all name (flat_map schema_entries ds) []
      ∙ all_found d e passes is ds ok agree c leads

-- so of each descriptor of which a schema of an endpoint's operation is drawn
module _ (ds : List DeclarationValue) (configured : Configured) (info : Info)
    (ok : All (λ (other : DeclarationValue). ShapePasses other.shape) ds) (agree : DefinitionsAgree ds) where
  passing : (es : List DeclarationValue) → All (λ (other : DeclarationValue). ShapePasses other.shape) es
      → (d : DeclarationValue) → Contains es d → ShapePasses d.shape
  passing [] each d c = absurd (omega (arith, c.1))
  passing (e ∷ es) each d c = elim (contains_cases e es d c) [
    | inl same ↦ subst (λ (x : DeclarationValue). ShapePasses x.shape) same
        (All-head (λ (x : DeclarationValue). ShapePasses x.shape) e es each)
    | inr later ↦ passing es (All-tail (λ (x : DeclarationValue). ShapePasses x.shape) e es each) d later
  ]

  pub defines_reached : (d : DeclarationValue) → Contains ds d → (desc : Desc) → IsDrawn d.shape desc
      → DefinesReached (open_api_json (document_listing ds configured info)) d.shape.table desc
  defines_reached d c desc drawn name e reached is =
      definition-stands (document_listing ds configured info) name
      ∙ schema_found name (errors_of ds) ds ok agree d c (passing ds ok d c)
      (covered d.shape.table (roots_of d.shape) desc
      (λ other mentions. in_roots d.shape other desc drawn mentions) name e reached is) e is
