use Rattle.api_types.specs.Kinds.{definitions_behind}
use Rattle.api_types.specs.StructTypes.{own_definitions}
use Rattle.api_types.proofs.Added.{adds_both, first_refused, second_refused}
use Rattle.api_types.proofs.api_struct.add_struct.Goals as goal

pub returns-in_err-add_definitions-clause-adds : goal.returns-in_err-add_definitions-clause-adds
returns-in_err-add_definitions-clause-adds g c =
    let kinds = g.S.Fields.FieldTypes.kinds_of in
    first_refused c.from_residual-in_err-add_definitions.result c.in_err-add_definitions.field-0.0 c.args.table.now (definitions_behind kinds)
    (own_definitions g.S.ApiStruct.is_in_place g.S.ApiStruct.struct_name g.S.ApiStruct.head_of kinds) _
    c.from_residual-in_err-add_definitions.ensures.1 (rw c.in_ok-all.ensures at c.in_err-add_definitions.ensures.adds.refused)

pub returns-in_err-add_own-clause-adds : goal.returns-in_err-add_own-clause-adds
returns-in_err-add_own-clause-adds g c =
    let kinds = g.S.Fields.FieldTypes.kinds_of in
    second_refused c.from_residual-in_err-add_own.result c.in_err-add_own.field-0.0 c.args.table.now (definitions_behind kinds)
    (own_definitions g.S.ApiStruct.is_in_place g.S.ApiStruct.struct_name g.S.ApiStruct.head_of kinds) c.add_definitions.new.table _
    c.from_residual-in_err-add_own.ensures.1 (rw c.in_ok-all.ensures at c.in_ok-add_definitions.ensures.adds.added) c.in_ok-add_definitions.ensures.adds.held c.in_err-add_own.ensures.refused

pub returns-clause-adds : goal.returns-clause-adds
returns-clause-adds g c =
    let kinds = g.S.Fields.FieldTypes.kinds_of in
    adds_both c.args.table.now (definitions_behind kinds) (own_definitions g.S.ApiStruct.is_in_place g.S.ApiStruct.struct_name g.S.ApiStruct.head_of kinds)
    c.add_definitions.new.table c.add_own.new.table _
    (rw c.in_ok-all.ensures at c.in_ok-add_definitions.ensures.adds.added) c.in_ok-add_definitions.ensures.adds.held c.in_ok-add_own.ensures.added c.in_ok-add_own.ensures.held
