use Rattle.std.proofs.Common.{[], ◌∷◌, codes, option_map, option_and_then, refl}
use Rattle.std.proofs.lemmas.Result.{on_ok_weaker}
use Rattle.schema_values.specs.declared.json_value.Json.{Text}
use Rattle.schema_values.specs.declared.schema.SchemaObject.{out-SchemaObject}
use Rattle.openapi_values.specs.SchemaJson.{count_json, enum_entries, values_of}
use Rattle.openapi_values.proofs.ObjectLemmas.{first, joined}
use Rattle.openapi_values.proofs.schema_parts.add_text.Goals as goal

pub returns : goal.returns
returns c =
    let schema = out-SchemaObject c.args.schema.now in
    let format = first (codes "format") (option_map Text schema.format) _ _ _ c.in_ok-add_option.ensures refl in
    let values = joined format (enum_entries (values_of schema.const_value schema.enum_values)) _ c.in_ok-add_values.ensures in
    let least = option_and_then (λ b. b.min) schema.string in
    let greatest = option_and_then (λ b. b.max) schema.string in
    let counts = (codes "minLength", count_json least) ∷ (codes "maxLength", count_json greatest) ∷ [] in
    on_ok_weaker c.add_counts.result (λ new. (joined values counts _ new).are) (rw (c.shortest-least.ensures, c.longest-greatest.ensures) at c.add_counts.ensures)
