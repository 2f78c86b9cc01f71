-- The JSON of an error's body is that of its tree.
use Rattle.std.proofs.Common.{◌≡◌, ℕ, false, List, [], ◌∷◌, ◌++◌, Option, Some, None, option_map, refl, ap, ap₂, ◌∙◌, inr}
use Rattle.std.specs.Prelude.{codes}
use Rattle.schema_values.specs.Member.{member}
use Rattle.schema_values.specs.declared.json_value.Json.{Json, Object, Text as Words}
use Rattle.schema_values.specs.declared.json_value.Member.{Member}
use Rattle.schema_values.proofs.CallerLemmas.{contains_first}
use Rattle.descriptors.specs.Definitions.{definition}
use Rattle.descriptors.specs.declared.desc.Desc.{Desc, Option as OptionOf}
use Rattle.descriptors.specs.declared.desc.Desc.TheVariants.{outs-Struct}
use Rattle.descriptors.specs.declared.desc.Presence.TheVariants.{Required, Skipped}
use Rattle.descriptors.specs.declared.table.Definition.{Definition}
use Rattle.descriptors.specs.declared.tree.Tree.{Tree, out-Tree}
use Rattle.descriptors.specs.declared.tree.Tree.TheVariants as trees
use Rattle.descriptors.proofs.CallerLemmas.{definition_is}
use Rattle.typed_values.specs.Denotes.{room}
use Rattle.typed_values.specs.Encoding.{is_none_level, json_of_tree, option_written, parts_written, scalar_written, unless, written_under}
use Rattle.typed_values.specs.Parts.{IsPart, in_field, of_table, of_whole, the_whole}
use Rattle.typed_values.specs.Resting.{Rests}
use Rattle.typed_values.proofs.CallerLemmas.{entry_inside, guarded_rests, written_ref, written_scalar, is_none_tree, skipped_written, struct_written}
use Rattle.api_types.specs.Types.{IsTableOf}
use Rattle.http_status.specs.ErrorBodies.{any_text, body_fields, code_members, code_tree, error_body_json, error_body_tree, error_definition, error_desc, text_field}
use Rattle.http_status.specs.declared.error_body.HttpErrorResponseBody.{HttpErrorResponseBody}

module _ (table : List Definition) (is_table : IsTableOf (error_definition ∷ []) error_desc table) where
  found : definition table (codes "Error") ≡ Some error_definition.desc
  found = definition_is table (codes "Error") ∙ ap (option_map (λ e. e.desc)) (is_table.holds error_definition (contains_first error_definition []))

  rests : (d : Desc) → IsPart table error_desc d → Rests table (room table error_desc) d
  rests = guarded_rests table error_desc is_table.table_passes.guarded

  -- a text stands in the definition, as the descriptor of the first field
  text_rests : Rests table (room table error_desc) any_text
  text_rests =
      rests any_text (of_table error_definition (entry_inside table (codes "Error") error_definition (is_table.holds error_definition (contains_first error_definition [])))
      (in_field body_fields false (text_field (codes "request_id") Required) the_whole (outs-Struct body_fields false)
      (contains_first (text_field (codes "request_id") Required) (text_field (codes "error_code") Skipped ∷ text_field (codes "message") Required ∷ []))))

  text_written : (text : List ℕ) → written_under table error_desc (trees.Text text) any_text ≡ Words text
  text_written text =
      written_scalar table error_desc (trees.Text text) any_text text_rests (inr (inr (inr (None, None, None, refl))))
      ∙ ap scalar_written (trees.outs-Text text)

  abbrev written : Tree → Desc → Json
  written = written_under table error_desc

  -- the member of a code, where there is one, before the others
  code_written : (code : Option (List ℕ)) (rest : List Member)
      → unless (is_none_tree (code_tree code)) (member (codes "error_code") (written (code_tree code) (OptionOf any_text))) rest ≡ code_members code ++ rest
  code_written None rest =
      ap (λ level. unless (is_none_level level) (member (codes "error_code") (written trees.None (OptionOf any_text))) rest) trees.outs-None
  code_written (Some code) rest =
      ap (λ level. unless (is_none_level level) (member (codes "error_code") (written (trees.Some (trees.Text code)) (OptionOf any_text))) rest) (trees.outs-Some (trees.Text code))
      ∙ ap (λ json. member (codes "error_code") json ∷ rest)
      (skipped_written table error_desc (trees.Some (trees.Text code)) any_text ∙ ap (option_written (λ x. written x any_text)) (trees.outs-Some (trees.Text code)) ∙ text_written code)

  -- the members in their order
  members_in_order : (body : HttpErrorResponseBody) → parts_written is_none_tree written body_fields (out-Tree (error_body_tree body)) ≡ error_body_json body
  members_in_order body =
      ap (parts_written is_none_tree written body_fields) (trees.outs-Fields (trees.Text body.request_id ∷ code_tree body.error_code ∷ trees.Text body.message ∷ []))
      ∙ ap₂ (λ id rest. Object (member (codes "request_id") id ∷ rest)) (text_written body.request_id)
      (code_written body.error_code (member (codes "message") (written (trees.Text body.message) any_text) ∷ [])
      ∙ ap (λ text. code_members body.error_code ++ member (codes "message") text ∷ []) (text_written body.message))

  -- the JSON of the tree is that of the body
  pub body_written : (body : HttpErrorResponseBody) → json_of_tree table error_desc (error_body_tree body) ≡ error_body_json body
  body_written body =
      written_ref table error_desc (error_body_tree body) error_desc (rests error_desc (of_whole the_whole)) (codes "Error") (Some error_definition.desc) refl found
      ∙ struct_written table error_desc (error_body_tree body) body_fields false
      ∙ members_in_order body
