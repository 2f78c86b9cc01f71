use Rattle.api_types.proofs.StructTypes.{type_each}
use Rattle.api_types.proofs.api_struct.AnyApiType.fits.Goals as goal

pub returns : goal.returns
returns g c =
    type_each g.S.ApiStruct.struct_name g.S.ApiStruct.head_of g.S.Fields.FieldTypes.kinds_of c.name.ensures.matched g.S.ApiStruct.is_in_place
    (g.S.Fields.FieldTypes.trees_of (g.S.ApiStruct.fields_of c.args.self.now)) c.each_fits.ensures
