use Rattle.tag_config.proofs.Trees.{fields_at, fields_one}
use Rattle.tag_config.proofs.from_json.trees_in.Goals as goal

pub unreachable-requires : goal.unreachable-requires
unreachable-requires c =
    let (policy, tags, one) = c.requires in
    let (ts, is) = fields_one policy tags c.args.tree.now one in
    c.in_default.not-Fields ts is

pub returns-clause-fit : goal.returns-clause-fit
returns-clause-fit c =
    let (policy, tags, one) = c.requires in
    rw c.as_slice.ensures (fields_at policy tags c.args.tree.now c.in-Fields.trees one c.in-Fields.is)
