use Rattle.std.proofs.Common.{◌≡◌, false}
use Rattle.api_types.specs.StructTypes.{own_definitions}
use Rattle.api_types.proofs.Added.{told}
use Rattle.api_types.proofs.api_struct.add_own.Goals as goal

pub returns-in_err-add_all : goal.returns-in_err-add_all
returns-in_err-add_all g c =
    let named : false ≡ g.S.ApiStruct.is_in_place = c.if-in_place.ensures in
    told c.from_residual-in_err-add_all.result c.in_err-add_all.field-0.0 c.args.table.now
    (own_definitions g.S.ApiStruct.is_in_place g.S.ApiStruct.struct_name g.S.ApiStruct.head_of g.S.Fields.FieldTypes.kinds_of) c.add_all.new.table
    c.from_residual-in_err-add_all.ensures.1 (rw (← named) (rw c.in_ok-definition_of.ensures at c.in_err-add_all.ensures.refused))
