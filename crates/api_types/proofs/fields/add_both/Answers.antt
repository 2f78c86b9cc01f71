use Rattle.std.proofs.Common.{◌++◌}
use Rattle.api_types.specs.Kinds.{definitions_behind}
use Rattle.api_types.proofs.Added.{adds_both, first_refused, second_refused, none_added, some_added}
use Rattle.api_types.proofs.fields.add_both.Goals as goal

pub returns-in_err-add_definitions-clause-adds : goal.returns-in_err-add_definitions-clause-adds
returns-in_err-add_definitions-clause-adds g c =
    first_refused c.from_residual.result c.in_err-add_definitions.field-0.0 c.args.table.now g.A.ApiType.definitions_of (definitions_behind g.R.FieldTypes.kinds_of) _
    c.from_residual.ensures.1 c.in_err-add_definitions.ensures.refused

pub returns-in_err-add_definitions-clause-err : goal.returns-in_err-add_definitions-clause-err
returns-in_err-add_definitions-clause-err g c =
    none_added c.from_residual.result c.args.table.now (g.A.ApiType.definitions_of ++ definitions_behind g.R.FieldTypes.kinds_of) _
    c.in_err-add_definitions.ensures.err

pub returns-in_err-add_definitions-2-clause-adds : goal.returns-in_err-add_definitions-2-clause-adds
returns-in_err-add_definitions-2-clause-adds g c =
    second_refused c.from_residual-in_err-add_definitions-2.result c.in_err-add_definitions-2.field-0.0 c.args.table.now g.A.ApiType.definitions_of (definitions_behind g.R.FieldTypes.kinds_of)
    c.add_definitions.new.table _ c.from_residual-in_err-add_definitions-2.ensures.1 c.in_ok-add_definitions.ensures.added c.in_ok-add_definitions.ensures.held
    c.in_err-add_definitions-2.ensures.adds.refused

pub returns-in_err-add_definitions-2-clause-err : goal.returns-in_err-add_definitions-2-clause-err
returns-in_err-add_definitions-2-clause-err g c =
    some_added c.from_residual-in_err-add_definitions-2.result c.args.table.now g.A.ApiType.definitions_of (definitions_behind g.R.FieldTypes.kinds_of)
    c.add_definitions.new.table _ c.in_ok-add_definitions.ensures.added c.in_err-add_definitions-2.ensures.err

pub returns-clause-adds : goal.returns-clause-adds
returns-clause-adds g c =
    adds_both c.args.table.now g.A.ApiType.definitions_of (definitions_behind g.R.FieldTypes.kinds_of) c.add_definitions.new.table c.add_definitions-2.new.table _
    c.in_ok-add_definitions.ensures.added c.in_ok-add_definitions.ensures.held c.in_ok-add_definitions-2.ensures.adds.added c.in_ok-add_definitions-2.ensures.adds.held
