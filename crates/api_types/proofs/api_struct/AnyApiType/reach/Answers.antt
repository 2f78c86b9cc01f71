use Rattle.api_types.proofs.StructTypes.{type_reaches}
use Rattle.api_types.proofs.api_struct.AnyApiType.reach.Goals as goal

pub returns : goal.returns
returns g c =
    type_reaches g.S.ApiStruct.struct_name g.S.ApiStruct.head_of g.S.Fields.FieldTypes.kinds_of c.name.ensures.matched g.S.ApiStruct.is_in_place c.reach.ensures
