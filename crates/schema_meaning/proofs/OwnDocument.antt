-- A document that has the written schemas of some definitions.
use Rattle.std.proofs.Common.{◌≡◌, ℕ, Bool, true, false, List, [], ◌∷◌, map, Option, Some, None, option_map, bytes_eq, cond, codes, refl, ◌∙◌, ap}
use Rattle.std.specs.Prelude.{find}
use Rattle.schema_values.specs.declared.json_value.Json.{Json, Object}
use Rattle.schema_values.specs.declared.json_value.Member.{Member}
use Rattle.schema_values.specs.declared.schema.Schema.{Schema}
use Rattle.schema_values.specs.Get.{first_named}
use Rattle.schema_values.specs.Member.{member}
use Rattle.openapi_values.specs.Lookup.{member_in}
use Rattle.openapi_values.proofs.CallerLemmas.{get-object}
use Rattle.schema_meaning.specs.Definitions.{NamedSchemas, schema_named}
use Rattle.schema_meaning.specs.Written.{DefinesReached}
use Rattle.schema_meaning.proofs.WrittenLevels.{json_of}

-- definitions as members
abbrev members_for : NamedSchemas → List Member
members_for = map (λ d. member d.0 (json_of d.1))

abbrev components_of : NamedSchemas → Json
components_of ds = Object (member (codes "schemas") (Object (members_for ds)) ∷ [])

abbrev pub document_of : NamedSchemas → Json
document_of ds = Object (member (codes "components") (components_of ds) ∷ [])

named : (name : List ℕ) (ds : NamedSchemas) → first_named name (members_for ds) ≡ option_map json_of (schema_named ds name)
named name [] = refl
named name (d ∷ ds) = by_name (bytes_eq name d.0) (named name ds)
  where
    by_name : (b : Bool) → first_named name (members_for ds) ≡ option_map json_of (schema_named ds name)
        → cond b (Some (json_of d.1)) (first_named name (members_for ds)) ≡ option_map json_of (option_map (λ (pair : List ℕ × Schema). pair.1) (cond b (Some d) (find (λ pair. bytes_eq name pair.0) ds)))
    by_name true later = refl
    by_name false later = later

pub defines_all : (ds : NamedSchemas) (whole : Schema) → DefinesReached (document_of ds) ds whole
defines_all ds whole s name reached e = (
  None,
  ap (λ (o : Option Json). member_in (member_in o (codes "schemas")) name) (get-object (codes "components") (member (codes "components") (components_of ds) ∷ []))
      ∙ ap (λ (o : Option Json). member_in o name) (get-object (codes "schemas") (member (codes "schemas") (Object (members_for ds)) ∷ []))
      ∙ get-object name (members_for ds)
      ∙ named name ds,
)
