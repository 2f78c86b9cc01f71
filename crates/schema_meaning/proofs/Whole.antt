-- The agreement in a whole document, whose room is enough.
use Rattle.std.proofs.Common.{◌≡◌, ◌↔◌, ℕ, ◌≤◌, Bool, true, false, List, [], ◌∷◌, map, sum, Option, Some, None, option_map, bytes_eq, cond, IsTrue, refl, sym, ◌∙◌, ap, subst, arith}
use Rattle.std.specs.Prelude.{find}
use Rattle.schema_values.specs.declared.json_value.Json.{Json}
use Rattle.schema_values.specs.declared.schema.Schema.{Schema}
use Rattle.openapi_values.specs.Find.{value_at}
use Rattle.openapi_values.specs.JsonAdmits.{admits_within as written_within, JsonAdmits}
use Rattle.openapi_values.specs.Room.{values, room as written_room}
use Rattle.openapi_values.specs.SchemaJson.{schema_json}
use Rattle.schema_meaning.specs.Accepted.{IsAccepted}
use Rattle.schema_meaning.specs.Count.{schemas, room}
use Rattle.schema_meaning.specs.Definitions.{NamedSchemas, schema_named}
use Rattle.schema_meaning.specs.Meaning.{admits_within, SchemaAdmits}
use Rattle.schema_meaning.specs.Reached.{IsReached, itself}
use Rattle.schema_meaning.specs.Steps.{WrittenStepsSuffice, MeaningStepsSuffice}
use Rattle.schema_meaning.specs.Written.{DefinesReached}
use Rattle.schema_meaning.proofs.Agreement.{agree}
use Rattle.schema_meaning.proofs.Bounds.{Sized, each_rests}
use Rattle.schema_meaning.proofs.Chains.{Rests, rests_more}
use Rattle.schema_meaning.proofs.Counts.{schemas_count}
use Rattle.schema_meaning.proofs.Documents.{sizes_in, size_of_definition, sizes_fit}
use Rattle.schema_meaning.proofs.OwnDocument.{document_of, defines_all}
use Rattle.schema_meaning.proofs.Sizes.{Sizes, summed}
use Rattle.schema_meaning.proofs.WrittenSizes.{written_size, written_counts, titled_fits}
use Rattle.std.proofs.lemmas.List.Sums.{sum_by-cons}

-- the number of schemas in each definition, under its name
abbrev sizes_of : NamedSchemas → Sizes
sizes_of = map (λ d. (d.0, schemas d.1))

count_named : (name : List ℕ) (ds : NamedSchemas) → value_at name (sizes_of ds) ≡ option_map schemas (schema_named ds name)
count_named name [] = refl
count_named name (d ∷ ds) = by_name (bytes_eq name d.0) (count_named name ds)
  where
    by_name : (b : Bool) → value_at name (sizes_of ds) ≡ option_map schemas (schema_named ds name)
        → option_map (λ (pair : List ℕ × ℕ). pair.1) (cond b (Some (d.0, schemas d.1)) (find (λ pair. bytes_eq name pair.0) (sizes_of ds))) ≡ option_map schemas (option_map (λ (pair : List ℕ × Schema). pair.1) (cond b (Some d) (find (λ pair. bytes_eq name pair.0) ds)))
    by_name true later = refl
    by_name false later = later

counts_summed : (ds : NamedSchemas) → summed (λ name k. k) (sizes_of ds) ≡ sum (map (λ d. schemas d.1) ds)
counts_summed [] = refl
counts_summed (d ∷ ds) =
    omega (arith, counts_summed ds, sum_by-cons (λ n. n) (schemas d.1) (map (λ (e : List ℕ × ℕ). e.1) (sizes_of ds)), sum_by-cons (λ n. n) (schemas d.1) (map (λ (d : List ℕ × Schema). schemas d.1) ds))

module _ (doc : Json) (definitions : NamedSchemas) (whole : Schema) (title : Option (List ℕ)) (accepted : IsAccepted definitions whole) (defines : DefinesReached doc definitions whole) where
  abbrev written : Json
  written = schema_json title whole

  written_sized : Sized definitions whole written_size (sizes_in doc)
  written_sized = record {
    counts = λ s reached. written_counts s;
    named = λ s name y reached e f. let (title, is) = defines s name reached e in
        (values (schema_json title y), size_of_definition doc name ∙ ap (option_map values) (is ∙ ap (option_map (schema_json title)) f), titled_fits title y);
  }

  sized : Sized definitions whole schemas (sizes_of definitions)
  sized = record {
    counts = λ s reached. schemas_count s;
    named = λ s name y reached e f. (schemas y, count_named name definitions ∙ ap (option_map schemas) f, omega arith);
  }

  -- any steps that are no fewer than the two rooms
  module _ (q r : ℕ) (enough : written_room doc written ≤ q) (also : room definitions whole ≤ r) where
    pub rests_written : (s : Schema) → IsReached definitions whole s → Rests definitions q s
    rests_written s reached =
        rests_more definitions _ q s (omega (arith, enough, sizes_fit doc, titled_fits title whole)) (each_rests definitions whole written_size (sizes_in doc) written_sized (λ t i. (accepted t i).no_way_back) s reached)

    pub rests : (s : Schema) → IsReached definitions whole s → Rests definitions r s
    rests s reached =
        rests_more definitions _ r s (omega (arith, also, counts_summed definitions)) (each_rests definitions whole schemas (sizes_of definitions) sized (λ t i. (accepted t i).no_way_back) s reached)

    pub same : (json : Json) → written_within doc q json q written ≡ admits_within definitions r json r whole
    same json = agree definitions whole doc accepted defines q r rests_written rests (omega (arith, also)) json whole itself q (rests_written whole itself) title r (rests whole itself)

  pub written_agrees : (json : Json) → JsonAdmits doc written json ↔ SchemaAdmits definitions whole json
  written_agrees json =
      let is = same (written_room doc written) (room definitions whole) (omega arith) (omega arith) json in
      (λ h. subst IsTrue is h, λ h. subst IsTrue (sym is) h)

  -- from the room on the steps are never spent
  pub written_steps : WrittenStepsSuffice doc written
  written_steps json steps enough =
      same steps (room definitions whole) enough (omega arith) json ∙ sym (same (written_room doc written) (room definitions whole) (omega arith) (omega arith) json)

pub meant_steps : (definitions : NamedSchemas) (whole : Schema) → IsAccepted definitions whole → MeaningStepsSuffice definitions whole
meant_steps definitions whole accepted json steps enough =
    let doc = document_of definitions in
    let q = written_room doc (schema_json None whole) in
    let defines = defines_all definitions whole in
    sym (same doc definitions whole None accepted defines q steps (omega arith) enough json) ∙ same doc definitions whole None accepted defines q (room definitions whole) (omega arith) (omega arith) json
