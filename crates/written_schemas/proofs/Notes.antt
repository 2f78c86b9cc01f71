-- Annotations in front of a schema's members change what it admits at null alone.
use Rattle.std.proofs.Common.{◌≡◌, ℕ, Bool, true, false, ◌&&◌, ◌||◌, List, [], ◌∷◌, ◌++◌, Option, None, Some, if◌then◌else◌, codes, bytes_eq, refl, ◌∙◌, ap, ◌⊎◌, inl, inr}
use Rattle.std.specs.List.{list_all, AllByRecursion}
use Rattle.std.specs.Option.{option_map_or}
use Rattle.schema_values.specs.declared.json_value.Json.{Json, Object}
use Rattle.schema_values.specs.declared.json_value.Json.TheVariants.{outs-Bool, outs-Object}
use Rattle.schema_values.specs.declared.json_value.Member.{Member}
use Rattle.schema_values.specs.Get.{first_named}
use Rattle.openapi_values.specs.declared.keywords.Keyword.TheVariants.{Annotation, Nullable}
use Rattle.openapi_values.specs.Keywords.{keyword_of, is_annotation, bound_or, part_of}
use Rattle.openapi_values.specs.Levels.{Level, is_null, is_true, as_object}
use Rattle.openapi_values.specs.Lookup.{definition, reference_in, is_set, is_of_type, is_null_form}
use Rattle.openapi_values.specs.Options.{is_some_and}
use Rattle.openapi_values.specs.Rows.{row, in_subset, members_hold}
use Rattle.openapi_values.specs.JsonAdmits.{object_admits, members_admit, schema_admits}
use Rattle.typed_values.specs.SchemaTable.{Drawn, Remarks, annotated, annotations, if_true, if_text, if_value}

-- a schema with these annotations in the place of its own
abbrev pub noted : Bool → Option (List ℕ) → Remarks → Drawn → Drawn
noted nullable title remarks s = record s { nullable = nullable; title = title; remarks = remarks }

-- a name of no annotation that is written
abbrev pub IsNoNote : List ℕ → Type 0
IsNoNote name =
    (bytes_eq name (codes "nullable") ≡ false) × (bytes_eq name (codes "title") ≡ false)
    × (bytes_eq name (codes "description") ≡ false) × (bytes_eq name (codes "default") ≡ false)

pub before_members : (ns ms : List Member) → annotated ns false ms ≡ ns ++ ms
before_members [] ms = refl
before_members (n ∷ ns) ms = refl

-- ---- what holds of the names of annotations

module _ (P : List ℕ → Type 0) where
  abbrev EachName : List Member → Type 0
  EachName = AllByRecursion (λ m. P m.name)

  with_true : (b : Bool) (name : List ℕ) (ms : List Member) → P name → EachName ms → EachName (if_true b name ms)
  with_true true name ms here rest = (here, rest)
  with_true false name ms here rest = rest

  with_text : (o : Option (List ℕ)) (name : List ℕ) (ms : List Member) → P name → EachName ms → EachName (if_text o name ms)
  with_text (Some text) name ms here rest = (here, rest)
  with_text None name ms here rest = rest

  with_value : (o : Option Json) (name : List ℕ) (ms : List Member) → P name → EachName ms → EachName (if_value o name ms)
  with_value (Some value) name ms here rest = (here, rest)
  with_value None name ms here rest = rest

  -- of those that stand where a schema is not nullable
  remarks_named : (t : Option (List ℕ)) (r : Remarks) → P (codes "title") → P (codes "description") → P (codes "default") → EachName (annotations false t r)
  remarks_named t r title description default =
      with_text t (codes "title") _ title (with_text r.description (codes "description") _ description (with_value r.default (codes "default") [] default tt))

  notes_named : (n : Bool) (t : Option (List ℕ)) (r : Remarks) → P (codes "nullable") → P (codes "title") → P (codes "description") → P (codes "default") → EachName (annotations n t r)
  notes_named n t r nullable title description default = with_true n (codes "nullable") _ nullable (remarks_named t r title description default)

-- ---- members behind those of such names

abbrev IsNote : List ℕ → Type 0
IsNote name = (keyword_of name ≡ Annotation) ⊎ (keyword_of name ≡ Nullable)

read_behind : (ns ms : List Member) → EachName IsNote ns → in_subset (ns ++ ms) ≡ in_subset ms
read_behind [] ms h = refl
read_behind (n ∷ ns) ms (inl e, h) = rw e (read_behind ns ms h)
read_behind (n ∷ ns) ms (inr e, h) = rw e (read_behind ns ms h)

first_behind : (name : List ℕ) (ns ms : List Member) → EachName (λ other. bytes_eq name other ≡ false) ns → first_named name (ns ++ ms) ≡ first_named name ms
first_behind name [] ms h = refl
first_behind name (n ∷ ns) ms h = rw (h.0) (first_behind name ns ms h.1)

no_reference : (ns : List Member) (m : Member) (ms : List Member) → bytes_eq m.name (codes "$ref") ≡ false → reference_in (ns ++ m ∷ ms) ≡ None
no_reference [] m [] other = rw other refl
no_reference [] m (l ∷ ms) other = refl
no_reference (n ∷ []) m ms other = refl
no_reference (n ∷ l ∷ ns) m ms other = refl

none_alone : (ns : List Member) → EachName (λ other. bytes_eq other (codes "$ref") ≡ false) ns → reference_in (ns ++ []) ≡ None
none_alone [] h = refl
none_alone (n ∷ []) h = rw (h.0) refl
none_alone (n ∷ l ∷ ns) h = refl

-- without values a schema is not the null form
pub no_null_form : (ms : List Member) → first_named (codes "enum") ms ≡ None → is_null_form ms ≡ false
no_null_form ms e = rw e (never (is_of_type (codes "string") ms))
  where
    never : (b : Bool) → (b && false) ≡ false
    never true = refl
    never false = refl

-- ---- annotations

module _ (n : Bool) (t : Option (List ℕ)) (r : Remarks) where
  are_notes : EachName IsNote (annotations n t r)
  unfolding is_annotation bound_or part_of
  are_notes = notes_named IsNote n t r (inr refl) (inl refl) (inl refl) (inl refl)

  notes_alone : reference_in (annotations n t r ++ []) ≡ None
  notes_alone = none_alone (annotations n t r) (notes_named (λ other. bytes_eq other (codes "$ref") ≡ false) n t r refl refl refl refl)

  module _ (ms : List Member) where
    pub notes_passed : (name : List ℕ) → IsNoNote name → first_named name (annotations n t r ++ ms) ≡ first_named name ms
    notes_passed name h = first_behind name (annotations n t r) ms (notes_named (λ other. bytes_eq name other ≡ false) n t r h.0 h.1 h.2 h.3)

    notes_null : first_named (codes "nullable") ms ≡ None → is_set (codes "nullable") (annotations n t r ++ ms) ≡ n
    notes_null none = by_case n
      where
        by_case : (n : Bool) → is_set (codes "nullable") (annotations n t r ++ ms) ≡ n
        by_case true = ap is_true (outs-Bool true)
        by_case false =
            rw (first_behind (codes "nullable") (annotations false t r) ms (remarks_named (λ other. bytes_eq (codes "nullable") other ≡ false) t r refl refl refl), none) refl

    notes_form : is_null_form (annotations n t r ++ ms) ≡ is_null_form ms
    notes_form = rw (notes_passed (codes "type") (refl, refl, refl, refl), notes_passed (codes "enum") (refl, refl, refl, refl)) refl

module _ {X : Type 0} (doc : Json) (smaller : X → Json → Bool) (next : Json → Bool) (json : Json) (j : Level X) (n : Bool) (t : Option (List ℕ)) (r : Remarks) where
  -- the rows of some members of a whole schema
  abbrev pub hold : List Member → List Member → Bool
  hold schema ms = list_all (λ m. row smaller next json j schema (keyword_of m.name) m.value) ms

  hold_behind : (schema ns ms : List Member) → EachName IsNote ns → hold schema (ns ++ ms) ≡ hold schema ms
  hold_behind schema [] ms h = refl
  hold_behind schema (m ∷ ns) ms (inl e, h) = rw e (hold_behind schema ns ms h)
  hold_behind schema (m ∷ ns) ms (inr e, h) = rw e (hold_behind schema ns ms h)

  object_row : (schema : List Member) → reference_in schema ≡ None → schema_admits doc smaller next json j (Object schema) ≡ object_admits smaller next json j schema
  object_row schema none =
      ap (λ (x : Level Json). is_some_and (as_object x) (members_admit doc smaller next json j)) (outs-Object schema)
      ∙ ap (λ (o : Option (List ℕ)). option_map_or (λ name. is_some_and (definition doc name) next) o (object_admits smaller next json j schema)) none

  noted_by : (ms : List Member) (form : Bool) → reference_in (annotations n t r ++ ms) ≡ None → first_named (codes "nullable") ms ≡ None → in_subset ms ≡ true → is_null_form ms ≡ form
      → schema_admits doc smaller next json j (Object (annotations n t r ++ ms)) ≡ (n && is_null j || (if form then is_null j else hold (annotations n t r ++ ms) ms))
  noted_by ms form none no_null read formed =
      let schema = annotations n t r ++ ms in
      object_row schema none
      ∙ ap (λ (b : Bool). b && (is_set (codes "nullable") schema && is_null j || (if is_null_form schema then is_null j else members_hold smaller next json j schema))) (read_behind (annotations n t r) ms (are_notes n t r) ∙ read)
      ∙ ap (λ (b : Bool). b && is_null j || (if is_null_form schema then is_null j else members_hold smaller next json j schema)) (notes_null n t r ms no_null)
      ∙ ap (λ (b : Bool). n && is_null j || (if b then is_null j else members_hold smaller next json j schema)) (notes_form n t r ms ∙ formed)
      ∙ ap (λ (b : Bool). n && is_null j || (if form then is_null j else b)) (hold_behind schema (annotations n t r) ms (are_notes n t r))

  -- A schema of the subset admits null beside, where it says so, and that of which its members hold; the null form null alone.
  pub noted_admits : (m : Member) (ms : List Member) (form : Bool) → bytes_eq m.name (codes "$ref") ≡ false → first_named (codes "nullable") (m ∷ ms) ≡ None → in_subset (m ∷ ms) ≡ true → is_null_form (m ∷ ms) ≡ form
      → schema_admits doc smaller next json j (Object (annotations n t r ++ m ∷ ms)) ≡ (n && is_null j || (if form then is_null j else hold (annotations n t r ++ m ∷ ms) (m ∷ ms)))
  noted_admits m ms form other = noted_by (m ∷ ms) form (no_reference (annotations n t r) m ms other)

  -- without members every value is admitted
  pub all_admitted : schema_admits doc smaller next json j (Object (annotations n t r ++ [])) ≡ true
  all_admitted = noted_by [] false (notes_alone n t r) refl refl refl ∙ always (n && is_null j)
    where
      always : (b : Bool) → (b || true) ≡ true
      always true = refl
      always false = refl
