use Rattle.std.proofs.Common.{subst}
use Rattle.std.proofs.lemmas.Result.{err_from_is_err_and}
use Rattle.api_types.specs.Additions.{AreRefused}
use Rattle.api_types.proofs.Refusing.{clash_told}
use Rattle.api_types.proofs.type_table.table_of.Goals as goal

pub returns-in_err-add_definitions-clause-refused : goal.returns-in_err-add_definitions-clause-refused
returns-in_err-add_definitions-clause-refused g c =
    let ds = g.T.ApiType.definitions_of in
    let error = c.in_err-add_definitions.field-0.0 in
    let p = err_from_is_err_and c.from_residual.result c.from_residual.ensures.1 in
    rw (p.1, p.2) (clash_told ds g.T.ApiType.desc_of error (subst (λ es. AreRefused es ds error) c.new-table.ensures c.in_err-add_definitions.ensures.refused))
