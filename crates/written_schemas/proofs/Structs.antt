-- What the schemas of structs admit, by what they say of the values of members.
use Rattle.std.proofs.Common.{◌≡◌, ℕ, Bool, true, false, ◌&&◌, ◌||◌, not, List, [], ◌∷◌, ◌++◌, map, Option, None, codes, refl, sym, ◌∙◌, ap}
use Rattle.std.proofs.Math.Bool.{and-true}
use Rattle.std.specs.List.{list_all}
use Rattle.schema_values.specs.declared.json_value.Json.{Json, out-Json, Bool as Truth, Text as Words, Object}
use Rattle.schema_values.specs.declared.json_value.Json.TheOpen.{Json-F}
use Rattle.schema_values.specs.declared.json_value.Json.TheVariants as json
use Rattle.schema_values.specs.declared.json_value.Member.{Member}
use Rattle.schema_values.specs.Get.{first_named}
use Rattle.openapi_values.specs.Keywords.{is_annotation, bound_or, part_of}
use Rattle.openapi_values.specs.Levels.{Named, Level, is_null, is_true, as_text, as_list, as_object, has_type, has_member}
use Rattle.openapi_values.specs.Options.{is_some_and}
use Rattle.openapi_values.specs.Rows.{in_subset, is_property, property_admitted, other_admitted}
use Rattle.openapi_values.specs.JsonAdmits.{schema_admits}
use Rattle.openapi_values.proofs.CallerLemmas.{all_same}
use Rattle.typed_values.specs.SchemaTable.{Remarks, annotations, of_type, if_members, if_names, if_denied}
use Rattle.written_schemas.proofs.Notes.{notes_passed, hold, noted_admits}
use Rattle.written_schemas.proofs.Scalars.{no_form_of, type_row}

abbrev pub parts : List Member → List (List ℕ) → Bool → List Member
parts properties names deny = if_members properties (codes "properties") (if_names names (codes "required") (if_denied deny))

parts_plain : (properties : List Member) (names : List (List ℕ)) (deny : Bool) → (first_named (codes "nullable") (parts properties names deny) ≡ None) × (in_subset (of_type (codes "object") (parts properties names deny)) ≡ true)
unfolding is_annotation bound_or part_of
parts_plain (p ∷ ps) (n ∷ ns) true = (refl, refl)
parts_plain (p ∷ ps) (n ∷ ns) false = (refl, refl)
parts_plain (p ∷ ps) [] true = (refl, refl)
parts_plain (p ∷ ps) [] false = (refl, refl)
parts_plain [] (n ∷ ns) true = (refl, refl)
parts_plain [] (n ∷ ns) false = (refl, refl)
parts_plain [] [] true = (refl, refl)
parts_plain [] [] false = (refl, refl)

module _ {X : Type 0} (smaller : X → Json → Bool) where
  abbrev pub other_passes : List Member → Named X → Bool
  other_passes properties m = has_member m.name properties || smaller m.value (Truth false)

  -- an object whose properties are admitted, that has these names, and no other than the properties where those are denied
  abbrev pub is_struct_of : List Member → List (List ℕ) → Bool → Level X → Bool
  is_struct_of properties names deny (Json-F.Object ms) =
      list_all (property_admitted smaller properties) ms && (list_all (λ name. has_member name ms) names && (not deny || list_all (other_passes properties) ms))
  is_struct_of properties names deny _ = false

  none_admitted : (ms : List (Named X)) → list_all (property_admitted smaller []) ms ≡ true
  none_admitted [] = refl
  none_admitted (m ∷ ms) = none_admitted ms

module _ {X : Type 0} (doc : Json) (smaller : X → Json → Bool) (next : Json → Bool) (value : Json) (n : Bool) (t : Option (List ℕ)) (r : Remarks) where
  abbrev holds_of : List (Named X) → List Member → List Member → Bool
  holds_of ms schema members = hold doc smaller next value (Json-F.Object ms) n t r schema members

  properties_hold : (ms : List (Named X)) (schema properties rest : List Member)
      → holds_of ms schema (if_members properties (codes "properties") rest) ≡ (list_all (property_admitted smaller properties) ms && holds_of ms schema rest)
  unfolding is_annotation bound_or part_of
  properties_hold ms schema [] rest = ap (λ (b : Bool). b && holds_of ms schema rest) (sym (none_admitted smaller ms))
  properties_hold ms schema (p ∷ ps) rest =
      ap (λ (x : Level Json). is_some_and (as_object x) (λ properties. list_all (property_admitted smaller properties) ms) && holds_of ms schema rest) (json.outs-Object (p ∷ ps))

  names_there : (ms : List (Named X)) (names : List (List ℕ)) → list_all (λ name. is_some_and (as_text (out-Json name)) (λ t. has_member t ms)) (map Words names) ≡ list_all (λ name. has_member name ms) names
  names_there ms [] = refl
  names_there ms (name ∷ names) =
      ap (λ (x : Level Json). is_some_and (as_text x) (λ t. has_member t ms) && list_all (λ name. is_some_and (as_text (out-Json name)) (λ t. has_member t ms)) (map Words names)) (json.outs-Text name)
      ∙ ap (λ (b : Bool). has_member name ms && b) (names_there ms names)

  names_hold : (ms : List (Named X)) (schema : List Member) (names : List (List ℕ)) (rest : List Member)
      → holds_of ms schema (if_names names (codes "required") rest) ≡ (list_all (λ name. has_member name ms) names && holds_of ms schema rest)
  unfolding is_annotation bound_or part_of
  names_hold ms schema [] rest = refl
  names_hold ms schema (name ∷ names) rest =
      ap (λ (x : Level Json). is_some_and (as_list x) (list_all (λ name. is_some_and (as_text (out-Json name)) (λ t. has_member t ms))) && holds_of ms schema rest) (json.outs-List (map Words (name ∷ names)))
      ∙ ap (λ (b : Bool). b && holds_of ms schema rest) (names_there ms (name ∷ names))

  others_hold : (ms : List (Named X)) (schema properties : List Member) → ((name : List ℕ) → is_property schema name ≡ has_member name properties) → (deny : Bool)
      → holds_of ms schema (if_denied deny) ≡ (not deny || list_all (other_passes smaller properties) ms)
  unfolding is_annotation bound_or part_of
  others_hold ms schema properties same false = refl
  others_hold ms schema properties same true =
      and-true (list_all (other_admitted smaller schema (Truth false)) ms)
      ∙ all_same (other_admitted smaller schema (Truth false)) (other_passes smaller properties) (λ m.
      ap (λ (b : Bool). b || (is_true (out-Json (Truth false)) || smaller m.value (Truth false))) (same m.name)
      ∙ ap (λ (x : Level Json). has_member m.name properties || (is_true x || smaller m.value (Truth false))) (json.outs-Bool false)) ms

  struct_schema : List Member → List (List ℕ) → Bool → List Member
  struct_schema properties names deny = annotations n t r ++ of_type (codes "object") (parts properties names deny)

  property_found : (properties : List Member) (names : List (List ℕ)) (deny : Bool) (name : List ℕ) → is_property (struct_schema properties names deny) name ≡ has_member name properties
  unfolding struct_schema
  property_found properties names deny name =
      ap (λ (o : Option Json). is_some_and o (λ s. is_some_and (as_object (out-Json s)) (has_member name))) (notes_passed n t r _ (codes "properties") (refl, refl, refl, refl))
      ∙ by_cases properties names deny
    where
      by_cases : (properties : List Member) (names : List (List ℕ)) (deny : Bool) → is_some_and (first_named (codes "properties") (of_type (codes "object") (parts properties names deny))) (λ s. is_some_and (as_object (out-Json s)) (has_member name)) ≡ has_member name properties
      by_cases [] [] true = refl
      by_cases [] [] false = refl
      by_cases [] (n ∷ names) true = refl
      by_cases [] (n ∷ names) false = refl
      by_cases (p ∷ ps) names deny = ap (λ (x : Level Json). is_some_and (as_object x) (has_member name)) (json.outs-Object (p ∷ ps))

  pub struct_admits : (j : Level X) (properties : List Member) (names : List (List ℕ)) (deny : Bool)
      → schema_admits doc smaller next value j (Object (annotations n t r ++ of_type (codes "object") (parts properties names deny))) ≡ (n && is_null j || is_struct_of smaller properties names deny j)
  unfolding is_annotation bound_or part_of struct_schema
  struct_admits j properties names deny =
      let schema = struct_schema properties names deny in
      let (none, read) = parts_plain properties names deny in
      noted_admits doc smaller next value j n t r _ _ false refl none read (no_form_of (codes "object") (parts properties names deny) refl)
      ∙ ap (λ (b : Bool). n && is_null j || b && hold doc smaller next value j n t r schema (parts properties names deny)) (type_row smaller next value j schema (codes "object"))
      ∙ ap (λ (b : Bool). n && is_null j || b) (by_form schema (property_found properties names deny) j)
    where
      by_form : (schema : List Member) → ((name : List ℕ) → is_property schema name ≡ has_member name properties) → (j : Level X)
          → (has_type (codes "object") j && hold doc smaller next value j n t r schema (parts properties names deny)) ≡ is_struct_of smaller properties names deny j
      by_form schema same Json-F.Null = refl
      by_form schema same (Json-F.Bool b) = refl
      by_form schema same (Json-F.Int i) = refl
      by_form schema same (Json-F.Text w) = refl
      by_form schema same (Json-F.List xs) = refl
      by_form schema same (Json-F.Object ms) =
          properties_hold ms schema properties (if_names names (codes "required") (if_denied deny))
          ∙ ap (λ (b : Bool). list_all (property_admitted smaller properties) ms && b) (names_hold ms schema names (if_denied deny) ∙ ap (λ (b : Bool). list_all (λ name. has_member name ms) names && b) (others_hold ms schema properties same deny))
