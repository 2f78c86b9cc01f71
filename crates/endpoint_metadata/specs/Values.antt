-- What is said of parameters, without how a map of definitions lies in memory.
use Rattle.std.specs.Prelude.{ℕ, Bool, List, map, Option, chars, string_bytes}
use Rattle.std.specs.declared.alloc.Global.{Global}
use Rattle.std.specs.declared.string.String.{String}
use Rattle.schema_values.specs.declared.schema.Schema.{Schema}
use Rattle.endpoint_metadata.specs.declared.generator.ApiSchemaGenerator.{ApiSchemaGenerator}
use Rattle.endpoint_metadata.specs.declared.generator.ApiSchemaGenerator.TheVariants.{Gen, Static}
use Rattle.endpoint_metadata.specs.declared.parameter.ApiEndpointParameter.{ApiEndpointParameter}
use Rattle.endpoint_metadata.specs.declared.parameter.ApiEndpointParameterMetadata.{ApiEndpointParameterMetadata}
use Rattle.endpoint_metadata.specs.declared.extension.ExtensionMode.{ExtensionMode}
use Rattle.endpoint_metadata.specs.declared.extension.ExtractorMetadata.{ExtractorMetadata}

-- schemas under their names, in order
abbrev pub SchemasInOrder : Type 0
SchemasInOrder = List (List ℕ × Schema)

-- those that the entries of a map are, whose keys are UTF-8
abbrev pub named_schemas : List (String Global × Schema) → SchemasInOrder
named_schemas entries = map (λ entry. (chars (string_bytes entry.0), entry.1)) entries

-- the schema of a type, with the name of the type, or a schema beside the definitions that references in it may mean
pub data GeneratorValue : Type 0 where
  of_type : List ℕ → Schema → GeneratorValue
  beside : Schema → SchemasInOrder → GeneratorValue

abbrev pub generator_value : ApiSchemaGenerator → GeneratorValue
generator_value (Gen name schema) = of_type name schema
generator_value (Static schema dependencies) = beside schema (named_schemas dependencies.entries)

-- what is said of a parameter
pub record ParameterValue : Type 0 where
  pub metadata : ApiEndpointParameterMetadata
  pub description : Option (List ℕ)
  pub required : Bool
  pub schema : GeneratorValue
  pub examples : List (List ℕ)

abbrev pub parameter_value : ApiEndpointParameter → ParameterValue
parameter_value p = record {
  metadata = p.metadata;
  description = p.description;
  required = p.required;
  schema = generator_value p.schema;
  examples = p.examples;
}

-- what is said of each of some parameters
abbrev pub parameter_values : List ApiEndpointParameter → List ParameterValue
parameter_values = map parameter_value

-- what is said of an endpoint by its slots
pub record MetadataValue : Type 0 where
  pub extension_mode : ExtensionMode
  pub parameters : List ParameterValue

abbrev pub metadata_value : ExtractorMetadata → MetadataValue
metadata_value m = record { extension_mode = m.extension_mode; parameters = parameter_values m.parameters }
