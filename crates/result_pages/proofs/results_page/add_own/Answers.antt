use Rattle.std.proofs.Common.{[], ◌∷◌}
use Rattle.api_types.proofs.CallerLemmas.{told}
use Rattle.result_pages.specs.Pages.{page_definition}
use Rattle.result_pages.proofs.results_page.add_own.Goals as goal

pub returns-in_err-add_all : goal.returns-in_err-add_all
returns-in_err-add_all g c =
    told c.from_residual-in_err-add_all.result c.in_err-add_all.field-0.0 c.args.table.now
    (page_definition g.T.ApiType.name_of g.T.ApiType.definitions_of g.T.ApiType.desc_of ∷ []) c.add_all.new.table
    c.from_residual-in_err-add_all.ensures.1 (rw c.in_ok-definition.ensures at c.in_err-add_all.ensures.refused)
