-- One step from a schema to the one that it leads to, where annotations stand before its members.
use Rattle.std.proofs.Common.{◌≡◌, ℕ, suc, Bool, List, [], ◌∷◌, ◌++◌, Option, Some, None, option_and_then, codes, bytes_eq, false, refl, ◌∙◌, ap}
use Rattle.std.specs.Option.{option_map_or}
use Rattle.schema_values.specs.declared.json_value.Json.{Json, out-Json, Text as Words, List as Items, Object}
use Rattle.schema_values.specs.declared.json_value.Json.TheVariants as json
use Rattle.schema_values.specs.declared.json_value.Member.{Member}
use Rattle.schema_values.specs.Get.{first_named}
use Rattle.schema_values.specs.Member.{member}
use Rattle.openapi_values.specs.FormAdmits.{only_schema, resolved_step, resolved_within}
use Rattle.openapi_values.specs.Levels.{Level, as_list, as_object}
use Rattle.openapi_values.specs.Lookup.{definition}
use Rattle.typed_values.specs.SchemaTable.{Remarks, annotations}
use Rattle.written_schemas.proofs.CallerLemmas.{notes_passed}
use Rattle.written_texts.proofs.SchemaSteps.{no_reference, reference_name}

module _ (doc : Json) (k : ℕ) where
  -- what the steps that are left lead to
  abbrev next : Json → Option (List Member)
  next = resolved_within doc k

  -- by its `allOf`, else the schema itself
  abbrev behind_all_of : List Member → Option Json → Option (List Member)
  behind_all_of schema all = option_map_or (λ all. option_and_then next (option_and_then only_schema (as_list (out-Json all)))) all (Some schema)

  opened : (ms : List Member) → resolved_within doc (suc k) (Object ms) ≡ resolved_step doc next ms
  unfolding resolved_within
  opened ms = ap (λ (x : Level Json). option_and_then (resolved_step doc next) (as_object x)) (json.outs-Object ms)

  -- a reference alone
  pub reference_leads : (name : List ℕ) → resolved_within doc (suc k) (Object (member (codes "$ref") (Words (codes "#/components/schemas/" ++ name)) ∷ [])) ≡ option_and_then next (definition doc name)
  reference_leads name =
      let schema = member (codes "$ref") (Words (codes "#/components/schemas/" ++ name)) ∷ [] in
      opened schema
      ∙ ap (λ (o : Option (List ℕ)). option_map_or (λ name. option_and_then next (definition doc name)) o (behind_all_of schema (first_named (codes "allOf") schema))) (reference_name name)

  module _ (n : Bool) (t : Option (List ℕ)) (r : Remarks) where
    no_name : (m : Member) (ms : List Member) → bytes_eq m.name (codes "$ref") ≡ false
        → resolved_within doc (suc k) (Object (annotations n t r ++ m ∷ ms)) ≡ behind_all_of (annotations n t r ++ m ∷ ms) (first_named (codes "allOf") (m ∷ ms))
    no_name m ms other =
        let schema = annotations n t r ++ m ∷ ms in
        opened schema
        ∙ ap (λ (o : Option (List ℕ)). option_map_or (λ name. option_and_then next (definition doc name)) o (behind_all_of schema (first_named (codes "allOf") schema))) (no_reference (annotations n t r) m ms other)
        ∙ ap (behind_all_of schema) (notes_passed n t r (m ∷ ms) (codes "allOf") (refl, refl, refl, refl))

    -- an `allOf` of one schema
    pub wrapped_leads : (s : Json) → resolved_within doc (suc k) (Object (annotations n t r ++ member (codes "allOf") (Items (s ∷ [])) ∷ [])) ≡ next s
    wrapped_leads s =
        no_name (member (codes "allOf") (Items (s ∷ []))) [] refl
        ∙ ap (λ (x : Level Json). option_and_then next (option_and_then only_schema (as_list x))) (json.outs-List (s ∷ []))

    -- any other schema is there
    pub schema_there : (m : Member) (ms : List Member) → bytes_eq m.name (codes "$ref") ≡ false → first_named (codes "allOf") (m ∷ ms) ≡ None
        → resolved_within doc (suc k) (Object (annotations n t r ++ m ∷ ms)) ≡ Some (annotations n t r ++ m ∷ ms)
    schema_there m ms other none = no_name m ms other ∙ ap (behind_all_of (annotations n t r ++ m ∷ ms)) none
