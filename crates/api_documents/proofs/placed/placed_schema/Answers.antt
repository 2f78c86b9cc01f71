use Rattle.std.proofs.Common.{None, sym, ◌∙◌, ap}
use Rattle.openapi_values.specs.Refusal.{refusal_of}
use Rattle.openapi_values.specs.SchemaJson.{schema_json}
use Rattle.endpoint_metadata.specs.Parameters.{written_in}
use Rattle.api_documents.proofs.placed.placed_schema.Goals as goal

pub written-requires : goal.written-requires
written-requires c =
    ap refusal_of c.in_ok-schema.ensures
    ∙ c.schemas_written.ensures.accepted c.args.table.now (written_in c.args.place c.args.desc.now)

pub returns : goal.returns
returns c =
    let json =
    ap (schema_json None) c.in_ok-schema.ensures
    ∙ c.schemas_written.ensures.plain c.args.table.now (written_in c.args.place c.args.desc.now) in
    rw (sym json) c.written.ensures
