use Rattle.std.proofs.lemmas.Result.{err_from_is_err_and}
use Rattle.typed_values.specs.SchemaTable.{schema_json, schema_json_titled}
use Rattle.written_schemas.proofs.CallerLemmas.{plain_agrees, titled_agrees}
use Rattle.type_wire.proofs.Admitted.{none_refused, read_admitted}
use Rattle.type_wire.proofs.wire.json_value.Goals as goal

pub returns-in_err-tree-clause-plain : goal.returns-in_err-tree-clause-plain
returns-in_err-tree-clause-plain g c doc written admits =
    let table = c.args.table.now in
    let json = c.args.json.now in
    let d = g.T.ApiType.desc_of in
    let p = err_from_is_err_and c.from_residual-in_err-tree.result c.from_residual-in_err-tree.ensures.1 in
    rw (p.1, p.2) (none_refused doc (schema_json table d) table d _ c.in_ok-desc.ensures (plain_agrees doc table d written) json c.requires.sound admits c.in_err-tree.field-0.0 c.in_err-tree.ensures.refused)

pub returns-in_err-tree-clause-titled : goal.returns-in_err-tree-clause-titled
returns-in_err-tree-clause-titled g c doc written admits =
    let table = c.args.table.now in
    let json = c.args.json.now in
    let d = g.T.ApiType.desc_of in
    let name = g.T.ApiType.name_of in
    let p = err_from_is_err_and c.from_residual-in_err-tree.result c.from_residual-in_err-tree.ensures.1 in
    rw (p.1, p.2) (none_refused doc (schema_json_titled table name d) table d _ c.in_ok-desc.ensures (titled_agrees doc table d written name) json c.requires.sound admits c.in_err-tree.field-0.0 c.in_err-tree.ensures.refused)

pub returns-clause-plain_read : goal.returns-clause-plain_read
returns-clause-plain_read g c doc written =
    read_admitted doc (schema_json c.args.table.now g.T.ApiType.desc_of) c.args.table.now g.T.ApiType.desc_of _ c.in_ok-desc.ensures (plain_agrees doc c.args.table.now g.T.ApiType.desc_of written) c.args.json.now c.requires.sound c.in_ok-tree.tree c.in_ok-tree.ensures.denotes

pub returns-clause-titled_read : goal.returns-clause-titled_read
returns-clause-titled_read g c doc written =
    let name = g.T.ApiType.name_of in
    read_admitted doc (schema_json_titled c.args.table.now name g.T.ApiType.desc_of) c.args.table.now g.T.ApiType.desc_of _ c.in_ok-desc.ensures (titled_agrees doc c.args.table.now g.T.ApiType.desc_of written name) c.args.json.now c.requires.sound c.in_ok-tree.tree c.in_ok-tree.ensures.denotes
