use Rattle.std.proofs.Common.{subst, IfOk}
use Rattle.descriptors.specs.declared.tree.Tree.{Tree}
use Rattle.typed_values.specs.Denotes.{JsonDenotes}
use Rattle.typed_values.specs.SchemaTable.{schema_json, schema_json_titled}
use Rattle.written_schemas.proofs.CallerLemmas.{plain_agrees, titled_agrees}
use Rattle.type_wire.proofs.Admitted.{admitted}
use Rattle.type_wire.proofs.wire.value_json.Goals as goal

pub returns-clause-denotes : goal.returns-clause-denotes
returns-clause-denotes g c =
    subst (λ d. IfOk c.encode_json.result (λ json. (read : Tree) × JsonDenotes c.args.table.now d json read)) c.in_ok-desc.ensures c.encode_json.ensures.denotes

pub returns-clause-plain : goal.returns-clause-plain
returns-clause-plain g c doc written =
    let d = g.T.ApiType.desc_of in
    admitted doc (schema_json c.args.table.now d) c.args.table.now d (plain_agrees doc c.args.table.now d written) c.encode_json.result c.encode_json.ensures.sound (returns-clause-denotes g c)

pub returns-clause-titled : goal.returns-clause-titled
returns-clause-titled g c doc written =
    let d = g.T.ApiType.desc_of in
    let name = g.T.ApiType.name_of in
    admitted doc (schema_json_titled c.args.table.now name d) c.args.table.now d (titled_agrees doc c.args.table.now d written name) c.encode_json.result c.encode_json.ensures.sound (returns-clause-denotes g c)
