use Rattle.std.proofs.Common.{Some, refl, sym, ◌∙◌, ap}
use Rattle.openapi_values.specs.Refusal.{refusal_of}
use Rattle.openapi_values.specs.SchemaJson.{schema_json}
use Rattle.written_schemas.proofs.NotRefused.{never_refused}
use Rattle.written_schemas.proofs.Written.{written_titled}
use Rattle.written_schemas.proofs.writing.titled_schema.Goals as goal

pub written-requires : goal.written-requires
written-requires c = ap refusal_of (c.in_ok-schema.ensures.plain refl) ∙ never_refused c.args.table.now c.args.desc.now

pub returns : goal.returns
returns c =
    let e = ap (schema_json (Some c.args.name.now)) (c.in_ok-schema.ensures.plain refl) ∙ written_titled c.args.table.now c.args.name.now c.args.desc.now in
    rw (sym e, c.as_str.ensures) c.written.ensures
