use Rattle.std.proofs.Common.{[], codes, option_map, refl}
use Rattle.std.specs.Option.{option_map_or}
use Rattle.schema_values.specs.declared.json_value.Json.{Text}
use Rattle.schema_values.specs.declared.schema.SchemaObject.{out-SchemaObject}
use Rattle.openapi_values.specs.SchemaJson.{bound_entries, enum_entries, values_of}
use Rattle.openapi_values.proofs.ObjectLemmas.{first, joined}
use Rattle.openapi_values.proofs.schema_parts.add_number.Goals as goal

pub returns : goal.returns
returns c =
    let schema = out-SchemaObject c.args.schema.now in
    let format = first (codes "format") (option_map Text schema.format) _ _ _ c.in_ok-add_option.ensures refl in
    let bounds = joined format (option_map_or bound_entries schema.number []) _ c.in_ok-add_bounds.ensures in
    (joined bounds (enum_entries (values_of schema.const_value schema.enum_values)) _ c.in_ok-add_values.ensures).are
