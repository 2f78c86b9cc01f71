use Rattle.api_types.proofs.StructTypes.{type_one, type_at}
use Rattle.api_types.proofs.api_struct.trees_in.Goals as goal

pub unreachable-requires : goal.unreachable-requires
unreachable-requires g c =
    let (ts, is) = type_one g.S.ApiStruct.struct_name g.S.ApiStruct.head_of g.S.Fields.FieldTypes.kinds_of c.name.ensures.matched g.S.ApiStruct.is_in_place c.args.tree.now c.requires in
    c.in_default.not-Fields ts is

pub returns-clause-fit : goal.returns-clause-fit
returns-clause-fit g c =
    rw c.as_slice.ensures
    (type_at g.S.ApiStruct.struct_name g.S.ApiStruct.head_of g.S.Fields.FieldTypes.kinds_of c.name.ensures.matched g.S.ApiStruct.is_in_place c.args.tree.now c.in-Fields.trees c.requires c.in-Fields.is)
