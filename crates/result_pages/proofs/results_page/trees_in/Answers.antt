use Rattle.std.proofs.Common.{false, refl}
use Rattle.api_types.proofs.CallerLemmas.{type_one, type_at}
use Rattle.result_pages.specs.Pages.{page_head, page_kinds, page_name}
use Rattle.result_pages.proofs.results_page.trees_in.Goals as goal

pub unreachable-requires : goal.unreachable-requires
unreachable-requires g c =
    let (ts, is) = type_one (page_name g.T.ApiType.name_of) page_head (page_kinds g.T.ApiType.definitions_of g.T.ApiType.desc_of) refl false c.args.tree.now c.requires in
    c.in_default.not-Fields ts is

pub returns-clause-fit : goal.returns-clause-fit
returns-clause-fit g c =
    rw c.as_slice.ensures
    (type_at (page_name g.T.ApiType.name_of) page_head (page_kinds g.T.ApiType.definitions_of g.T.ApiType.desc_of) refl false c.args.tree.now c.in-Fields.trees c.requires c.in-Fields.is)
