use Rattle.std.proofs.Common.{◌≡◌, ℕ, true, List, [], String, Global, None, ap, refl, ◌∙◌}
use Rattle.schema_values.specs.declared.schema.Schema.{Schema}
use Rattle.typed_values.specs.Schemas.{schema_value}
use Rattle.request_parts.specs.declared.content_type.ApiEndpointBodyContentType.TheVariants.{Bytes}
use Rattle.endpoint_metadata.specs.declared.parameter.ApiEndpointParameterMetadata.TheVariants.{Body}
use Rattle.endpoint_metadata.specs.Parameters.{binary_type}
use Rattle.endpoint_metadata.specs.Values.{beside, named_schemas, ParameterValue, parameter_value}
use Rattle.endpoint_metadata.proofs.bodies.bytes_body.Goals as goal

abbrev of_parts : Schema → List (String Global × Schema) → List (List ℕ) → ParameterValue
of_parts schema entries examples = record {
  metadata = Body Bytes;
  description = None;
  required = true;
  schema = beside schema (named_schemas entries);
  examples = examples;
}

pub returns : goal.returns
returns c =
    let table = c.args.table.now in
    let binary = schema_value table binary_type in
    let schema_is : c.in_ok-schema.schema ≡ binary =
    c.in_ok-schema.ensures.plain refl ∙ ap (schema_value table) (c.get.ensures ∙ c.in_ok-binary.ensures) in
    ap parameter_value c.new_body.ensures
    ∙ ap (λ schema. of_parts schema c.new.result.entries c.new-examples.result) schema_is
    ∙ ap (λ entries. of_parts binary entries c.new-examples.result) c.new.ensures.empty
    ∙ ap (of_parts binary []) c.new-examples.ensures
