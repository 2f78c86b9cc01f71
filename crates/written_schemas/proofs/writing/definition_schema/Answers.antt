use Rattle.std.proofs.Common.{None, sym, ◌∙◌, ap}
use Rattle.openapi_values.specs.Refusal.{refusal_of}
use Rattle.openapi_values.specs.SchemaJson.{schema_json}
use Rattle.typed_values.specs.Schemas.{schema_parts}
use Rattle.written_schemas.proofs.NotRefused.{never_refused, described_taken}
use Rattle.written_schemas.proofs.Written.{written_described}
use Rattle.written_schemas.proofs.writing.definition_schema.Goals as goal

pub written-requires : goal.written-requires
written-requires c =
    ap refusal_of c.in_ok-schema.ensures
    ∙ described_taken c.args.definition.now.description (schema_parts c.args.table.now c.args.definition.now.desc) (never_refused c.args.table.now c.args.definition.now.desc)

pub returns : goal.returns
returns c =
    let e = ap (schema_json None) c.in_ok-schema.ensures ∙ written_described c.args.table.now c.args.definition.now.description c.args.definition.now.desc in
    rw (sym e) c.written.ensures
