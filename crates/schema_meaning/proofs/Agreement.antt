-- A schema admits what it is written as admits, with any steps that its chains leave over.
use Rattle.std.proofs.Common.{◌≡◌, ℕ, zero, suc, ◌≤◌, Bool, true, false, ◌&&◌, List, [], ◌∷◌, Option, Some, None, ◌++◌, length, ◌==◌, option_map, option_and_then, unwrap_or, cond, refl, sym, subst, ◌∙◌, ap, arith, inl, inr}
use Rattle.std.proofs.Math.Bool.{and-false}
use Rattle.std.specs.List.{AllByRecursion}
use Rattle.std.specs.Option.{option_map_or}
use Rattle.std.specs.Prelude.{codes, Contains, IfSome}
use Rattle.schema_values.specs.declared.json_value.Json.{Json, Bool as Truth, Text as Words, Object as ObjectOf, out-Json}
use Rattle.schema_values.specs.declared.json_value.Json.TheOpen.{Json-F}
use Rattle.schema_values.specs.declared.json_value.Json.TheVariants as json
use Rattle.schema_values.specs.declared.json_value.Member.{Member}
use Rattle.schema_values.specs.Member.{member}
use Rattle.schema_values.specs.Parts.{Parts, no_parts}
use Rattle.schema_values.specs.declared.schema.Items.TheOpen.{Schema-F}
use Rattle.schema_values.specs.declared.schema.Schema.{Schema, out-Schema}
use Rattle.schema_values.specs.declared.schema.SchemaObject.{SchemaObject, out-SchemaObject}
use Rattle.schema_values.specs.declared.schema.Subschemas.{Subschemas}
use Rattle.openapi_values.specs.JsonAdmits.{members_admit, object_admits as written_object_admits, schema_admits as written_admits, admits_within as written_within}
use Rattle.request_words.specs.Prefixes.{after}
use Rattle.openapi_values.specs.Keywords.{is_annotation, bound_or, part_of}
use Rattle.openapi_values.specs.Levels.{Level, as_text, as_object}
use Rattle.openapi_values.specs.Lookup.{definition, name_in}
use Rattle.openapi_values.specs.Objects.{object_of, reference_json}
use Rattle.openapi_values.specs.Options.{is_some_and}
use Rattle.openapi_values.specs.SchemaJson.{Written, truth_json, annotations, entries_behind, without_values, schema_json}
use Rattle.openapi_values.specs.Smaller.{smaller_admits as written_smaller}
use Rattle.openapi_values.proofs.CallerLemmas.{admits-zero as written-zero, admits-suc as written-suc}
use Rattle.schema_meaning.specs.Accepted.{IsEmpty, SubschemasAreKept, IsAccepted}
use Rattle.schema_meaning.specs.Asked.{parts_admit}
use Rattle.schema_meaning.specs.Definitions.{NamedSchemas, schema_named, name_referred}
use Rattle.schema_meaning.specs.Forms.{SchemaLevel, level_by_form}
use Rattle.schema_meaning.specs.Meaning.{object_admits, admits_within}
use Rattle.schema_meaning.specs.Reached.{combined_schemas, if_any, smaller_schemas, stands_alone, beside_in, below_in, beside, below, LeadsTo, subschema, referred, IsReached, same_value, smaller_value}
use Rattle.schema_meaning.specs.Written.{DefinesReached}
use Rattle.schema_meaning.proofs.Among.{among_right}
use Rattle.schema_values.proofs.CallerLemmas.{contains_first, OfParts, by_parts}
use Rattle.schema_meaning.proofs.Chains.{Rests}
use Rattle.schema_meaning.proofs.Members.{MeanOf}
use Rattle.schema_meaning.proofs.NotRefused.{unrefused}
use Rattle.schema_meaning.proofs.ObjectMeanings.{PartsOf, object_admits as object_agrees}
use Rattle.schema_meaning.proofs.Steps.{smaller_admits, admits-suc}
use Rattle.schema_meaning.proofs.WrittenLevels.{truth-is, by_parts-is, level_of}

-- ---- truth values and references

truth_admits : {X : Type 0} (doc : Json) (smaller : X → Json → Bool) (next : Json → Bool) (value : Json) (j : Level X) (b : Bool) → written_admits doc smaller next value j (truth_json b) ≡ b
unfolding is_annotation bound_or part_of
truth_admits doc smaller next value j true = ap (λ (x : Level Json). is_some_and (as_object x) (members_admit doc smaller next value j)) (json.outs-Object [])
truth_admits doc smaller next value j false =
    ap (λ (x : Level Json). is_some_and (as_object x) (members_admit doc smaller next value j)) (json.outs-Object (member (codes "not") (ObjectOf []) ∷ []))
    ∙ and-false (is_some_and (as_object (out-Json (ObjectOf []))) (λ ms. length ms == 0) && true)

reference_admits : {X : Type 0} (doc : Json) (smaller : X → Json → Bool) (next : Json → Bool) (value : Json) (j : Level X) (text : List ℕ)
    → written_admits doc smaller next value j (reference_json text) ≡ is_some_and (option_and_then (definition doc) (name_in (Some text))) next
unfolding is_annotation bound_or part_of
reference_admits doc smaller next value j text =
    let schema = member (codes "$ref") (Words text) ∷ [] in
    ap (λ (x : Level Json). is_some_and (as_object x) (members_admit doc smaller next value j)) (json.outs-Object schema)
    ∙ ap (λ (x : Level Json). option_map_or (λ name. is_some_and (definition doc name) next) (option_and_then (after (codes "#/components/schemas/")) (as_text x)) (written_object_admits smaller next value j schema)) (json.outs-Text text)
    ∙ by_name (after (codes "#/components/schemas/") text)
  where
    by_name : (o : Option (List ℕ)) → option_map_or (λ name. is_some_and (definition doc name) next) o false ≡ is_some_and (option_and_then (definition doc) o) next
    by_name None = refl
    by_name (Some name) = refl

-- a truth value in the place of a schema admits nothing
truth_alone : (doc : Json) (q n : ℕ) (j : Json) (b : Bool) → written_within doc q j n (Truth b) ≡ false
truth_alone doc q zero j b = written-zero doc q j (Truth b)
truth_alone doc q (suc n) j b =
    written-suc doc q j n (Truth b)
    ∙ ap (λ (x : Level Json). is_some_and (as_object x) (members_admit doc (written_smaller doc q) (written_within doc q j n) j (out-Json j))) (json.outs-Bool b)

truth_meant : (definitions : NamedSchemas) (r n : ℕ) (j : Json) (s : Schema) (b : Bool) → 1 ≤ n → out-Schema s ≡ Schema-F.Bool b → admits_within definitions r j n s ≡ b
truth_meant definitions r zero j s b le e = absurd (omega (arith, le))
truth_meant definitions r (suc n) j s b le e =
    admits-suc definitions r j n s
    ∙ ap (λ (z : SchemaLevel). level_by_form (λ b. b) (object_admits definitions (smaller_admits definitions r) (admits_within definitions r j n) j (out-Json j)) z) e

-- the empty schema admits all
empty_meant : (definitions : NamedSchemas) (r n : ℕ) (j : Json) (s : Schema) → 1 ≤ n → IsEmpty s → admits_within definitions r j n s ≡ true
empty_meant definitions r n j s le (inl e) = truth_meant definitions r n j s true le e
empty_meant definitions r zero j s le (inr (o, e, f)) = absurd (omega (arith, le))
empty_meant definitions r (suc n) j s le (inr (o, e, f)) =
    let smaller = smaller_admits definitions r in
    let next = admits_within definitions r j n in
    admits-suc definitions r j n s
    ∙ ap (λ (z : SchemaLevel). level_by_form (λ b. b) (object_admits definitions smaller next j (out-Json j)) z) e
    ∙ ap (λ (p : Parts). option_map_or (λ text. is_some_and (option_and_then (schema_named definitions) (name_in (Some text))) next) p.reference (parts_admit smaller next j (out-Json j) p)) f
    ∙ by_level (out-Json j)
  where
    by_level : (x : Level Json) → parts_admit (smaller_admits definitions r) (admits_within definitions r j n) j x no_parts ≡ true
    by_level Json-F.Null = refl
    by_level (Json-F.Bool b) = refl
    by_level (Json-F.Int i) = refl
    by_level (Json-F.Text t) = refl
    by_level (Json-F.List xs) = refl
    by_level (Json-F.Object ms) = refl

of_some : {A : Type 0} (P : A → Type 0) (o : Option A) (x : A) → o ≡ Some x → IfSome o P → P x
of_some {A} P o x e h = subst (λ (o : Option A). IfSome o P) e h

some_left : (definitions : NamedSchemas) (n : ℕ) (s : Schema) → Rests definitions n s → 1 ≤ n
unfolding Rests
some_left definitions zero s h = absurd h
some_left definitions (suc n) s h = omega arith

-- ---- what stands inside a schema object

inside_is : {A : Type 0} (p : Parts) (none all : List A) → p.reference ≡ None → without_values p.enum_values ≡ false → cond (stands_alone p) none all ≡ all
inside_is p none all e f = rw (e, f) refl

beside-is : (s : Schema) (o : SchemaObject) → out-Schema s ≡ Schema-F.Object o → (out-SchemaObject o).reference ≡ None → without_values (out-SchemaObject o).enum_values ≡ false → beside s ≡ option_map_or combined_schemas (out-SchemaObject o).subschemas []
beside-is s o e f g = ap (λ (z : SchemaLevel). level_by_form (λ b. []) beside_in z) e ∙ inside_is (out-SchemaObject o) [] (option_map_or combined_schemas (out-SchemaObject o).subschemas []) f g

below-is : (s : Schema) (o : SchemaObject) → out-Schema s ≡ Schema-F.Object o → (out-SchemaObject o).reference ≡ None → without_values (out-SchemaObject o).enum_values ≡ false → below s ≡ smaller_schemas (out-SchemaObject o).instance_type (out-SchemaObject o)
below-is s o e f g = ap (λ (z : SchemaLevel). level_by_form (λ b. []) below_in z) e ∙ inside_is (out-SchemaObject o) [] (smaller_schemas (out-SchemaObject o).instance_type (out-SchemaObject o)) f g

module _ (definitions : NamedSchemas) (whole : Schema) (doc : Json) (accepted : IsAccepted definitions whole) (defines : DefinesReached doc definitions whole) (q r : ℕ)
    (rests_written : (s : Schema) → IsReached definitions whole s → Rests definitions q s) (rests : (s : Schema) → IsReached definitions whole s → Rests definitions r s) (some : 1 ≤ r) where
  -- at a value, each schema that is reached admits what it is written as does
  abbrev AgreesAt : Json → ℕ → Schema → Type 0
  AgreesAt j m s = (given : Option (List ℕ)) (n : ℕ) → Rests definitions n s → written_within doc q j m (schema_json given s) ≡ admits_within definitions r j n s

  abbrev Agrees : Json → Type 0
  Agrees j = (s : Schema) → IsReached definitions whole s → (m : ℕ) → Rests definitions m s → AgreesAt j m s

  no_truth : (x : Json) (b : Bool) → written_smaller doc q x (Truth b) ≡ false
  no_truth x b = truth_alone doc q q x b

  truth_kept : (x : Json) (s : Schema) (b : Bool) → out-Schema s ≡ Schema-F.Bool b → smaller_admits definitions r x s ≡ b
  truth_kept x s b e = truth_meant definitions r r x s b some e

  module _ (j : Json) (below_j : OfParts Agrees (out-Json j)) where
    mean_of : (ss : List Schema) → ((t : Schema) → Contains ss t → IsReached definitions whole t) → (x : Json) → Agrees x → MeanOf (written_smaller doc q) (smaller_admits definitions r) no_truth truth_kept ss x
    mean_of ss reached x agrees t c = agrees t (reached t c) q (rests_written t (reached t c)) None r (rests t (reached t c))

    module _ (s : Schema) (reached : IsReached definitions whole s) (k n : ℕ) (left : (t : Schema) → LeadsTo definitions s t → Rests definitions k t) (also : (t : Schema) → LeadsTo definitions s t → Rests definitions n t)
        (ih : (t : Schema) → IsReached definitions whole t → Rests definitions k t → AgreesAt j k t) where
      abbrev Next : Json → Bool
      Next = written_within doc q j k

      abbrev MeansNext : Schema → Bool
      MeansNext = admits_within definitions r j n

      next_agrees : (title : Option (List ℕ)) (t : Schema) → LeadsTo definitions s t → Next (schema_json title t) ≡ MeansNext t
      next_agrees title t l = ih t (same_value s t reached l) (left t l) title n (also t l)

      -- a reference
      by_definition : (name : List ℕ) → name_referred s ≡ Some name → is_some_and (definition doc name) Next ≡ is_some_and (schema_named definitions name) MeansNext
      by_definition name e = let (title, is) = defines s name reached e in ap (λ (o : Option Json). is_some_and o Next) is ∙ by_schema title (schema_named definitions name) refl
        where
          by_schema : (title : Option (List ℕ)) (o : Option Schema) → schema_named definitions name ≡ o → is_some_and (option_map (schema_json title) o) Next ≡ is_some_and o MeansNext
          by_schema title None f = refl
          by_schema title (Some y) f = next_agrees title y (referred name y e f)

      by_name : (o : Option (List ℕ)) → name_referred s ≡ o → is_some_and (option_and_then (definition doc) o) Next ≡ is_some_and (option_and_then (schema_named definitions) o) MeansNext
      by_name None e = refl
      by_name (Some name) e = by_definition name e

      module _ (given : Option (List ℕ)) (o : SchemaObject) (e : out-Schema s ≡ Schema-F.Object o) where
        abbrev p : Parts
        p = out-SchemaObject o

        abbrev Agreement : Option (List ℕ) → Type 0
        Agreement text = written_admits doc (written_smaller doc q) Next j (out-Json j) (option_map_or reference_json text (object_of (annotations given p ++ entries_behind (level_of p))))
            ≡ option_map_or (λ text. is_some_and (option_and_then (schema_named definitions) (name_in (Some text))) MeansNext) text (parts_admit (smaller_admits definitions r) MeansNext j (out-Json j) p)

        by_reference : (text : List ℕ) → p.reference ≡ Some text → Agreement (Some text)
        by_reference text f =
            reference_admits doc (written_smaller doc q) Next j (out-Json j) text
            ∙ by_name (name_in (Some text)) (ap (λ (z : SchemaLevel). level_by_form (λ b. None) (λ o. name_in (out-SchemaObject o).reference) z) e ∙ ap name_in f)

        beside_reached : p.reference ≡ None → without_values p.enum_values ≡ false → (u : Subschemas) (t : Schema) → p.subschemas ≡ Some u → Contains (combined_schemas u) t → LeadsTo definitions s t
        beside_reached f g u t h c =
            subschema t (subst (λ (l : List Schema). Contains l t) (sym (beside-is s o e f g ∙ ap (λ (x : Option Subschemas). option_map_or combined_schemas x []) h)) c)

        below_reached : p.reference ≡ None → without_values p.enum_values ≡ false → (t : Schema) → Contains (smaller_schemas p.instance_type p) t → IsReached definitions whole t
        below_reached f g t c = smaller_value s t reached (subst (λ (l : List Schema). Contains l t) (sym (below-is s o e f g)) c)

        parts_agree : (f : p.reference ≡ None) (g : without_values p.enum_values ≡ false) → (x : Level Json) → OfParts Agrees x
            → PartsOf given p ((accepted s reached).parts_kept o e f) (unrefused s o e f (accepted s reached).not_refused) j (written_smaller doc q) Next (smaller_admits definitions r) MeansNext no_truth truth_kept (smaller_schemas p.instance_type p) x
        parts_agree f g Json-F.Null h = tt
        parts_agree f g (Json-F.Bool b) h = tt
        parts_agree f g (Json-F.Int i) h = tt
        parts_agree f g (Json-F.Text t) h = tt
        parts_agree f g (Json-F.List xs) h = each xs h
          where
            each : (xs : List Json) → AllByRecursion Agrees xs → AllByRecursion (MeanOf (written_smaller doc q) (smaller_admits definitions r) no_truth truth_kept (smaller_schemas p.instance_type p)) xs
            each [] h = tt
            each (x ∷ xs) h = (mean_of (smaller_schemas p.instance_type p) (below_reached f g) x h.0, each xs h.1)
        parts_agree f g (Json-F.Object ms) h = each ms h
          where
            each : (ms : List Member) → AllByRecursion (λ m. Agrees m.value) ms → AllByRecursion (λ m. MeanOf (written_smaller doc q) (smaller_admits definitions r) no_truth truth_kept (smaller_schemas p.instance_type p) m.value) ms
            each [] h = tt
            each (m ∷ ms) h = (mean_of (smaller_schemas p.instance_type p) (below_reached f g) m.value h.0, each ms h.1)

        not_among : (u : Subschemas) (t : Schema) → u.not ≡ Some t → Contains (combined_schemas u) t
        not_among u t h =
            among_right (unwrap_or u.all_of []) _ t
            (among_right (unwrap_or u.any_of []) _ t (among_right (unwrap_or u.one_of []) (if_any u.not) t (subst (λ (x : Option Schema). Contains (if_any x) t) (sym h) (contains_first t []))))

        by_parts_of : p.reference ≡ None → Agreement None
        by_parts_of f =
            let kept = (accepted s reached).parts_kept o e f in
            let right = unrefused s o e f (accepted s reached).not_refused in
            ap (λ (text : Option (List ℕ)). written_admits doc (written_smaller doc q) Next j (out-Json j) (option_map_or reference_json text (object_of (annotations given p ++ entries_behind (level_of p))))) (sym f)
            ∙ object_agrees given p kept right j (written_smaller doc q) Next (smaller_admits definitions r) MeansNext no_truth truth_kept doc (out-Json j) refl f
            (λ g. record {
              agree = λ u h t c. next_agrees None t (beside_reached f g u t h c);
              empty = λ u t h i.
                  let l = beside_reached f g u t h (not_among u t i) in
                  empty_meant definitions r n j t (some_left definitions n t (also t l)) (of_some IsEmpty u.not t i (of_some SubschemasAreKept p.subschemas u h kept.subschemas_kept).not_empty);
              parts = parts_agree f g (out-Json j) below_j;
            })

        by_text : (text : Option (List ℕ)) → p.reference ≡ text → Agreement text
        by_text None f = by_parts_of f
        by_text (Some text) f = by_reference text f

      by_form : (given : Option (List ℕ)) (z : SchemaLevel) → out-Schema s ≡ z
          → written_admits doc (written_smaller doc q) Next j (out-Json j) (schema_json given s) ≡ level_by_form (λ b. b) (object_admits definitions (smaller_admits definitions r) MeansNext j (out-Json j)) z
      by_form given (Schema-F.Bool b) e =
          ap (λ (w : Written). written_admits doc (written_smaller doc q) Next j (out-Json j) (w.under given)) (truth-is s b e) ∙ truth_admits doc (written_smaller doc q) Next j (out-Json j) b
      by_form given (Schema-F.Object o) e =
          ap (λ (v : Json). written_admits doc (written_smaller doc q) Next j (out-Json j) v) (by_parts-is s o given e)
          ∙ by_text given o e (out-SchemaObject o).reference refl

    agree_at : (m : ℕ) (s : Schema) → IsReached definitions whole s → Rests definitions m s → AgreesAt j m s
    unfolding Rests
    agree_at zero s reached left given n also = absurd left
    agree_at (suc k) s reached left given zero also = absurd also
    agree_at (suc k) s reached left given (suc n) also =
        written-suc doc q j k (schema_json given s)
        ∙ by_form s reached k n left also (agree_at k) given (out-Schema s) refl
        ∙ sym (admits-suc definitions r j n s)

  pub agree : (j : Json) → Agrees j
  agree = by_parts Agrees (λ j parts s reached m left. agree_at j parts m s reached left)
