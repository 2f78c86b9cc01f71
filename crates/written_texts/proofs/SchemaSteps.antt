-- One step of a schema at a text, where annotations stand before its members.
use Rattle.std.proofs.Common.{◌≡◌, ℕ, suc, Bool, false, ◌&&◌, ◌||◌, not, List, [], ◌∷◌, ◌++◌, Option, Some, None, option_and_then, codes, bytes_eq, count_by, ◌==◌, refl, ◌∙◌, ap}
use Rattle.std.specs.Option.{option_map_or}
use Rattle.schema_values.specs.declared.json_value.Json.{Json, out-Json, Int as Number, Text as Words, List as Items, Object}
use Rattle.schema_values.specs.declared.json_value.Json.TheVariants as json
use Rattle.schema_values.specs.declared.json_value.Member.{Member}
use Rattle.schema_values.specs.Get.{first_named}
use Rattle.schema_values.specs.Member.{member}
use Rattle.request_words.specs.Numbers.{has_minus, number_of}
use Rattle.request_words.specs.Prefixes.{after}
use Rattle.request_words.proofs.CallerLemmas.{after_prefix}
use Rattle.openapi_values.specs.Levels.{Level, as_text, as_list, as_object}
use Rattle.openapi_values.specs.Lookup.{definition, reference_in, is_of_type}
use Rattle.openapi_values.specs.Options.{is_some_and}
use Rattle.openapi_values.specs.Rows.{one_admits}
use Rattle.openapi_values.specs.TextAdmits.{json_admitted, typed_admits, only_admits, one_or_typed, form_admits, reference_or_form, text_step, text_within, is_unsigned}
use Rattle.typed_values.specs.SchemaTable.{Remarks, annotations, of_type}
use Rattle.written_schemas.proofs.CallerLemmas.{notes_passed}

-- the name that a reference alone refers to
pub reference_name : (name : List ℕ) → reference_in (member (codes "$ref") (Words (codes "#/components/schemas/" ++ name)) ∷ []) ≡ Some name
reference_name name =
    ap (λ (x : Level Json). option_and_then (after (codes "#/components/schemas/")) (as_text x)) (json.outs-Text (codes "#/components/schemas/" ++ name))
    ∙ after_prefix (codes "#/components/schemas/") name

-- behind annotations stands no reference, where another member does
pub no_reference : (ns : List Member) (m : Member) (ms : List Member) → bytes_eq m.name (codes "$ref") ≡ false → reference_in (ns ++ m ∷ ms) ≡ None
no_reference [] m [] other = rw other refl
no_reference [] m (l ∷ ms) other = refl
no_reference (n ∷ []) m ms other = refl
no_reference (n ∷ l ∷ ns) m ms other = refl

pub one_more : (doc : Json) (text : List ℕ) (n : ℕ) (s : Json) → text_within doc text (suc n) s ≡ text_step doc (text_within doc text n) text s
unfolding text_within
one_more doc text n s = refl

module _ (doc : Json) (next : Json → Bool) (text : List ℕ) where
  -- a schema object is looked at by its members
  opened : (ms : List Member) → text_step doc next text (Object ms) ≡ reference_or_form doc next text (Object ms) ms
  opened ms = ap (λ (x : Level Json). is_some_and (as_object x) (reference_or_form doc next text (Object ms))) (json.outs-Object ms)

  -- a reference alone
  pub reference_step : (name : List ℕ) → text_step doc next text (Object (member (codes "$ref") (Words (codes "#/components/schemas/" ++ name)) ∷ [])) ≡ is_some_and (definition doc name) next
  reference_step name =
      let schema = member (codes "$ref") (Words (codes "#/components/schemas/" ++ name)) ∷ [] in
      opened schema
      ∙ ap (λ (o : Option (List ℕ)). option_map_or (λ name. is_some_and (definition doc name) next) o (form_admits doc next text (Object schema) schema)) (reference_name name)

  module _ (n : Bool) (t : Option (List ℕ)) (r : Remarks) where
    form_step : (m : Member) (ms : List Member) → bytes_eq m.name (codes "$ref") ≡ false
        → text_step doc next text (Object (annotations n t r ++ m ∷ ms)) ≡ form_admits doc next text (Object (annotations n t r ++ m ∷ ms)) (annotations n t r ++ m ∷ ms)
    form_step m ms other =
        let schema = annotations n t r ++ m ∷ ms in
        opened schema
        ∙ ap (λ (o : Option (List ℕ)). option_map_or (λ name. is_some_and (definition doc name) next) o (form_admits doc next text (Object schema) schema)) (no_reference (annotations n t r) m ms other)

    -- an `allOf` of one schema
    pub wrapped_step : (s : Json) → text_step doc next text (Object (annotations n t r ++ member (codes "allOf") (Items (s ∷ [])) ∷ [])) ≡ next s
    wrapped_step s =
        let schema = annotations n t r ++ member (codes "allOf") (Items (s ∷ [])) ∷ [] in
        form_step (member (codes "allOf") (Items (s ∷ []))) [] refl
        ∙ ap (λ (o : Option Json). option_map_or (λ all. is_some_and (as_list (out-Json all)) (only_admits next)) o (one_or_typed doc next text (Object schema) schema))
        (notes_passed n t r (member (codes "allOf") (Items (s ∷ [])) ∷ []) (codes "allOf") (refl, refl, refl, refl))
        ∙ ap (λ (x : Level Json). is_some_and (as_list x) (only_admits next)) (json.outs-List (s ∷ []))

    module _ (m : Member) (ms : List Member) (other : bytes_eq m.name (codes "$ref") ≡ false) (none : first_named (codes "allOf") (m ∷ ms) ≡ None) where
      abbrev schema : List Member
      schema = annotations n t r ++ m ∷ ms

      one_step : text_step doc next text (Object schema) ≡ one_or_typed doc next text (Object schema) schema
      one_step =
          form_step m ms other
          ∙ ap (λ (o : Option Json). option_map_or (λ all. is_some_and (as_list (out-Json all)) (only_admits next)) o (one_or_typed doc next text (Object schema) schema))
          (notes_passed n t r (m ∷ ms) (codes "allOf") (refl, refl, refl, refl) ∙ none)

      -- by the type alone
      pub typed_step : first_named (codes "oneOf") (m ∷ ms) ≡ None → text_step doc next text (Object schema) ≡ typed_admits (json_admitted doc (Object schema)) schema text
      typed_step no_choice =
          one_step
          ∙ ap (λ (o : Option Json). option_map_or (one_admits next) o (typed_admits (json_admitted doc (Object schema)) schema text))
          (notes_passed n t r (m ∷ ms) (codes "oneOf") (refl, refl, refl, refl) ∙ no_choice)

    -- exactly one of some schemas
    pub choice_step : (ss : List Json) → text_step doc next text (Object (annotations n t r ++ member (codes "oneOf") (Items ss) ∷ [])) ≡ (count_by next ss == 1)
    choice_step ss =
        let schema = annotations n t r ++ member (codes "oneOf") (Items ss) ∷ [] in
        one_step (member (codes "oneOf") (Items ss)) [] refl refl
        ∙ ap (λ (o : Option Json). option_map_or (one_admits next) o (typed_admits (json_admitted doc (Object schema)) schema text))
        (notes_passed n t r (member (codes "oneOf") (Items ss) ∷ []) (codes "oneOf") (refl, refl, refl, refl))
        ∙ ap (λ (x : Level Json). is_some_and (as_list x) (λ ss. count_by next ss == 1)) (json.outs-List ss)

    -- the type is the one that stands
    that_type : (type : List ℕ) (ms : List Member) (other : List ℕ) → is_of_type other (annotations n t r ++ of_type type ms) ≡ bytes_eq type other
    that_type type ms other =
        ap (λ (o : Option Json). is_some_and o (λ s. is_some_and (as_text (out-Json s)) (λ name. bytes_eq name other))) (notes_passed n t r (of_type type ms) (codes "type") (refl, refl, refl, refl))
        ∙ ap (λ (x : Level Json). is_some_and (as_text x) (λ name. bytes_eq name other)) (json.outs-Text type)

    module _ (ms : List Member) (none : first_named (codes "allOf") ms ≡ None) (no_choice : first_named (codes "oneOf") ms ≡ None) where
      abbrev of : List ℕ → List Member
      of type = annotations n t r ++ of_type type ms

      pub truth_step : text_step doc next text (Object (of (codes "boolean"))) ≡ (bytes_eq (codes "true") text || bytes_eq (codes "false") text)
      truth_step =
          typed_step (member (codes "type") (Words (codes "boolean"))) ms refl none no_choice
          ∙ rw (that_type (codes "boolean") ms (codes "boolean")) refl

      pub number_step : text_step doc next text (Object (of (codes "integer")))
          ≡ (not (is_unsigned (of (codes "integer")) && has_minus text) && is_some_and (number_of text) (λ n. json_admitted doc (Object (of (codes "integer"))) (Number n)))
      number_step =
          typed_step (member (codes "type") (Words (codes "integer"))) ms refl none no_choice
          ∙ rw (that_type (codes "integer") ms (codes "boolean"), that_type (codes "integer") ms (codes "integer")) refl

      pub string_step : text_step doc next text (Object (of (codes "string"))) ≡ json_admitted doc (Object (of (codes "string"))) (Words text)
      string_step =
          typed_step (member (codes "type") (Words (codes "string"))) ms refl none no_choice
          ∙ rw (that_type (codes "string") ms (codes "boolean"), that_type (codes "string") ms (codes "integer"), that_type (codes "string") ms (codes "string")) refl
