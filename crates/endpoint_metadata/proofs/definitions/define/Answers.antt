use Rattle.std.proofs.Common.{◌∙◌, ◌≢◌, ◌++◌, ◌∷◌, [], List, ℕ, String, Global, ap, string_bytes, subst, sym}
use Rattle.std.proofs.lemmas.List.{map_push}
use Rattle.std.specs.List.{AllByRecursion}
use Rattle.schema_values.specs.declared.schema.Schema.{Schema}
use Rattle.endpoint_metadata.specs.ByBytes.{entries_by_bytes, names_by_bytes}
use Rattle.endpoint_metadata.proofs.SchemasInOrder.{new_last}
use Rattle.endpoint_metadata.proofs.definitions.define.Goals as goal

pub returns : goal.returns
returns c =
    let entries = c.args.definitions.now.entries in
    let name = c.in_ok-name.name in
    let schema = c.args.schema in
    let is_new =
    subst (λ (bytes : List ℕ). AllByRecursion (λ other. bytes ≢ other) (names_by_bytes entries))
    (sym c.in_ok-name.ensures.ok) c.requires in
    ap entries_by_bytes (c.in_ok-insert.ensures.entries ∙ new_last entries name schema is_new)
    ∙ map_push (λ (entry : String Global × Schema). (string_bytes entry.0, entry.1)) entries (name, schema)
    ∙ ap (λ (bytes : List ℕ). entries_by_bytes entries ++ (bytes, schema) ∷ []) c.in_ok-name.ensures.ok
