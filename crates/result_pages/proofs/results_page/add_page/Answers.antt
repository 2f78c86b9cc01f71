use Rattle.std.proofs.Common.{[], ◌∷◌}
use Rattle.api_types.specs.Kinds.{definitions_behind}
use Rattle.api_types.proofs.CallerLemmas.{adds_both, first_refused, second_refused}
use Rattle.result_pages.specs.Pages.{page_definition, page_kinds}
use Rattle.result_pages.proofs.results_page.add_page.Goals as goal

pub returns-in_err-add_definitions-clause-adds : goal.returns-in_err-add_definitions-clause-adds
returns-in_err-add_definitions-clause-adds g c =
    let item = g.T.ApiType in
    first_refused c.from_residual-in_err-add_definitions.result c.in_err-add_definitions.field-0.0 c.args.table.now (definitions_behind (page_kinds item.definitions_of item.desc_of))
    (page_definition item.name_of item.definitions_of item.desc_of ∷ []) _
    c.from_residual-in_err-add_definitions.ensures.1 (rw c.in_ok-all.ensures at c.in_err-add_definitions.ensures.adds.refused)

pub returns-in_err-add_own-clause-adds : goal.returns-in_err-add_own-clause-adds
returns-in_err-add_own-clause-adds g c =
    let item = g.T.ApiType in
    second_refused c.from_residual-in_err-add_own.result c.in_err-add_own.field-0.0 c.args.table.now (definitions_behind (page_kinds item.definitions_of item.desc_of))
    (page_definition item.name_of item.definitions_of item.desc_of ∷ []) c.add_definitions.new.table _
    c.from_residual-in_err-add_own.ensures.1 (rw c.in_ok-all.ensures at c.in_ok-add_definitions.ensures.adds.added) c.in_ok-add_definitions.ensures.adds.held c.in_err-add_own.ensures.refused

pub returns-clause-adds : goal.returns-clause-adds
returns-clause-adds g c =
    let item = g.T.ApiType in
    adds_both c.args.table.now (definitions_behind (page_kinds item.definitions_of item.desc_of)) (page_definition item.name_of item.definitions_of item.desc_of ∷ [])
    c.add_definitions.new.table c.add_own.new.table _
    (rw c.in_ok-all.ensures at c.in_ok-add_definitions.ensures.adds.added) c.in_ok-add_definitions.ensures.adds.held c.in_ok-add_own.ensures.added c.in_ok-add_own.ensures.held
