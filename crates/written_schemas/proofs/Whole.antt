-- The agreement in a whole document, whose room is enough.
use Rattle.std.proofs.Common.{◌≡◌, ◌↔◌, ℕ, ◌+◌, ◌≤◌, false, List, Option, Some, None, is_ok, refl, sym, ◌∙◌, subst, arith, IsTrue}
use Rattle.std.specs.declared.result.Result.TheVariants.{Ok, Err}
use Rattle.schema_values.specs.declared.json_value.Json.{Json}
use Rattle.schema_values.specs.Sound.{IsSound as IsSoundValue}
use Rattle.openapi_values.specs.JsonAdmits.{admits_within}
use Rattle.openapi_values.specs.Room.{values, room}
use Rattle.descriptors.specs.declared.desc.Desc.{Desc, out-Desc}
use Rattle.descriptors.specs.declared.desc.Desc.TheOpen.{Desc-F}
use Rattle.descriptors.specs.declared.table.Definition.{Definition}
use Rattle.descriptors.specs.declared.tree.Tree.{Tree}
use Rattle.typed_values.specs.Denotes.{Told, told, room as table_room}
use Rattle.typed_values.specs.Parts.{the_whole}
use Rattle.typed_values.specs.SchemaTable.{Remarks, drawn, drawn_json, schema_json, schema_json_titled, schema_json_described}
use Rattle.typed_values.specs.Levels.{DescLevel}
use Rattle.typed_values.proofs.CallerLemmas.{of_whole, guarded_rests}
use Rattle.written_schemas.specs.Written.{IsWritten, AdmitsDenoted, StepsSuffice}
use Rattle.written_schemas.proofs.Notes.{noted}
use Rattle.written_schemas.proofs.EachValue.{agree}
use Rattle.written_schemas.proofs.Sizes.{bare, bare_fits}
use Rattle.written_schemas.proofs.Rooms.{cost_bounded}

true_where : (o : Told) → IsTrue (is_ok o) ↔ ((tree : Tree) × (o ≡ Ok tree))
true_where (Ok tree) = (λ h. (tree, refl), λ h. refl)
true_where (Err trouble) = (λ h. absurd (cc h), λ h. absurd (cc h.1))

module _ (doc : Json) (table : List Definition) (desc : Desc) (written : IsWritten doc table desc) where
  -- any steps that are no fewer than the values of the document and the bare schema
  pub agree_with : (q : ℕ) → values doc + bare table desc ≤ q → (json : Json) → IsSoundValue json → (t : Option (List ℕ)) (s : Remarks)
      → admits_within doc q json q (drawn_json (noted (drawn table desc).nullable t s (drawn table desc))) ≡ is_ok (told table desc json desc)
  agree_with q enough json sound t s =
      agree table desc doc q written.table_passes written.desc_passes (guarded_rests table desc written.table_passes.guarded) written.defined (omega (arith, enough))
      (λ d need. omega (arith, cost_bounded table desc doc written.table_passes written.defined (table_room table desc) d need, enough))
      json sound desc (of_whole the_whole) false t s

  noted_agrees : (t : Option (List ℕ)) (s : Remarks) → AdmitsDenoted doc (drawn_json (noted (drawn table desc).nullable t s (drawn table desc))) table desc
  noted_agrees t s json sound =
      let schema = drawn_json (noted (drawn table desc).nullable t s (drawn table desc)) in
      let same = agree_with (room doc schema) (omega (arith, bare_fits table desc (drawn table desc).nullable t s)) json sound t s in
      let ok = true_where (told table desc json desc) in
      (λ h. ok.0 (subst IsTrue same h), λ h. subst IsTrue (sym same) (ok.1 h))

  -- from the room on the steps are never spent
  noted_steps : (t : Option (List ℕ)) (s : Remarks) → StepsSuffice doc (drawn_json (noted (drawn table desc).nullable t s (drawn table desc)))
  noted_steps t s json sound steps le =
      let schema = drawn_json (noted (drawn table desc).nullable t s (drawn table desc)) in
      let enough : values doc + bare table desc ≤ room doc schema = omega (arith, bare_fits table desc (drawn table desc).nullable t s) in
      agree_with steps (omega (arith, enough, le)) json sound t s ∙ sym (agree_with (room doc schema) enough json sound t s)

  -- what holds under every title and description
  module _ (P : Json → Type 0) (each : (t : Option (List ℕ)) (s : Remarks) → P (drawn_json (noted (drawn table desc).nullable t s (drawn table desc)))) where
    plain_is : P (schema_json table desc)
    plain_is = each (drawn table desc).title (drawn table desc).remarks

    described_is : (text : Option (List ℕ)) → P (schema_json_described table text desc)
    described_is None = plain_is
    described_is (Some text) = each (drawn table desc).title (record (drawn table desc).remarks { description = Some text })

    titled_is : (name : List ℕ) → P (schema_json_titled table name desc)
    titled_is name = by_form (out-Desc desc) refl
      where
        by_form : (z : DescLevel) → out-Desc desc ≡ z → P (schema_json_titled table name desc)
        by_form Desc-F.Any e = rw e (each (Some name) (drawn table desc).remarks)
        by_form Desc-F.Never e = rw e (each (Some name) (drawn table desc).remarks)
        by_form Desc-F.Null e = rw e (each (Some name) (drawn table desc).remarks)
        by_form Desc-F.Bool e = rw e (each (Some name) (drawn table desc).remarks)
        by_form Desc-F.Char e = rw e (each (Some name) (drawn table desc).remarks)
        by_form (Desc-F.Int kind min max) e = rw e (each (Some name) (drawn table desc).remarks)
        by_form (Desc-F.Text min max format) e = rw e (each (Some name) (drawn table desc).remarks)
        by_form (Desc-F.Enumeration ns) e = rw e (each (Some name) (drawn table desc).remarks)
        by_form (Desc-F.Option x) e = rw e (each (Some name) (drawn table desc).remarks)
        by_form (Desc-F.List x min max) e = rw e (each (Some name) (drawn table desc).remarks)
        by_form (Desc-F.Map x) e = rw e (each (Some name) (drawn table desc).remarks)
        by_form (Desc-F.Struct fs deny) e = rw e (each (Some name) (drawn table desc).remarks)
        by_form (Desc-F.External vs) e = rw e (each (Some name) (drawn table desc).remarks)
        by_form (Desc-F.Tagged tag vs) e = rw e (each (Some name) (drawn table desc).remarks)
        by_form (Desc-F.Untagged ds) e = rw e (each (Some name) (drawn table desc).remarks)
        by_form (Desc-F.Ref other) e = rw e plain_is

  abbrev Agrees : Json → Type 0
  Agrees schema = AdmitsDenoted doc schema table desc

  pub plain_agrees : AdmitsDenoted doc (schema_json table desc) table desc
  plain_agrees = plain_is Agrees noted_agrees

  pub described_agrees : (text : Option (List ℕ)) → AdmitsDenoted doc (schema_json_described table text desc) table desc
  described_agrees = described_is Agrees noted_agrees

  pub titled_agrees : (name : List ℕ) → AdmitsDenoted doc (schema_json_titled table name desc) table desc
  titled_agrees = titled_is Agrees noted_agrees

  pub plain_steps : StepsSuffice doc (schema_json table desc)
  plain_steps = plain_is (StepsSuffice doc) noted_steps

  pub described_steps : (text : Option (List ℕ)) → StepsSuffice doc (schema_json_described table text desc)
  described_steps = described_is (StepsSuffice doc) noted_steps

  pub titled_steps : (name : List ℕ) → StepsSuffice doc (schema_json_titled table name desc)
  titled_steps = titled_is (StepsSuffice doc) noted_steps
