-- What the schemas of maps admit, by what they say of the values of members.
use Rattle.std.proofs.Common.{◌≡◌, ℕ, Bool, false, ◌&&◌, ◌||◌, List, [], ◌∷◌, ◌++◌, Option, codes, refl, ◌∙◌, ap}
use Rattle.std.proofs.Math.Bool.{and-true}
use Rattle.std.specs.List.{list_all}
use Rattle.schema_values.specs.declared.json_value.Json.{Json, out-Json, Object}
use Rattle.schema_values.specs.declared.json_value.Json.TheOpen.{Json-F}
use Rattle.schema_values.specs.declared.json_value.Member.{Member}
use Rattle.schema_values.specs.Member.{member}
use Rattle.openapi_values.specs.Keywords.{is_annotation, bound_or, part_of}
use Rattle.openapi_values.specs.Levels.{Level, is_null, is_true, as_object, has_type, has_member}
use Rattle.openapi_values.specs.Options.{is_some_and}
use Rattle.openapi_values.specs.Rows.{is_property, other_admitted}
use Rattle.openapi_values.specs.JsonAdmits.{schema_admits}
use Rattle.typed_values.specs.SchemaTable.{Remarks, annotations, of_type}
use Rattle.written_schemas.proofs.Notes.{notes_passed, hold, noted_admits}
use Rattle.written_schemas.proofs.Scalars.{no_form_of, type_row}
use Rattle.openapi_values.proofs.CallerLemmas.{all_same}

-- an object of which each value passes a test
abbrev pub is_map_of : {X : Type 0} → (X → Bool) → Level X → Bool
is_map_of p (Json-F.Object ms) = list_all (λ m. p m.value) ms
is_map_of p _ = false

-- a value is admitted by `additionalProperties`: true, or a schema
abbrev pub as_other : {X : Type 0} → (X → Json → Bool) → Json → X → Bool
as_other smaller s v = is_true (out-Json s) || smaller v s

module _ {X : Type 0} (doc : Json) (smaller : X → Json → Bool) (next : Json → Bool) (value : Json) (n : Bool) (t : Option (List ℕ)) (r : Remarks) (s : Json) where
  map_schema : List Member
  map_schema = annotations n t r ++ of_type (codes "object") (member (codes "additionalProperties") s ∷ [])

  no_property : (name : List ℕ) → is_property map_schema name ≡ false
  unfolding map_schema
  no_property name = ap (λ (o : Option Json). is_some_and o (λ s. is_some_and (as_object (out-Json s)) (has_member name))) (notes_passed n t r _ (codes "properties") (refl, refl, refl, refl))

  pub map_admits : (j : Level X) → schema_admits doc smaller next value j (Object (annotations n t r ++ of_type (codes "object") (member (codes "additionalProperties") s ∷ []))) ≡ (n && is_null j || is_map_of (as_other smaller s) j)
  unfolding is_annotation bound_or part_of map_schema
  map_admits j =
      noted_admits doc smaller next value j n t r _ _ false refl refl refl (no_form_of (codes "object") (member (codes "additionalProperties") s ∷ []) refl)
      ∙ ap (λ (b : Bool). n && is_null j || b && hold doc smaller next value j n t r map_schema (member (codes "additionalProperties") s ∷ [])) (type_row smaller next value j map_schema (codes "object"))
      ∙ ap (λ (b : Bool). n && is_null j || b) (by_form map_schema no_property j)
    where
      by_form : (schema : List Member) → ((name : List ℕ) → is_property schema name ≡ false) → (j : Level X)
          → (has_type (codes "object") j && hold doc smaller next value j n t r schema (member (codes "additionalProperties") s ∷ [])) ≡ is_map_of (as_other smaller s) j
      by_form schema none Json-F.Null = refl
      by_form schema none (Json-F.Bool b) = refl
      by_form schema none (Json-F.Int i) = refl
      by_form schema none (Json-F.Text w) = refl
      by_form schema none (Json-F.List xs) = refl
      by_form schema none (Json-F.Object ms) =
          and-true (list_all (other_admitted smaller schema s) ms)
          ∙ all_same (other_admitted smaller schema s) (λ m. as_other smaller s m.value) (λ m. ap (λ (b : Bool). b || (is_true (out-Json s) || smaller m.value s)) (none m.name)) ms
