use Rattle.std.proofs.Common.{false, refl}
use Rattle.api_types.proofs.CallerLemmas.{type_each}
use Rattle.result_pages.specs.Pages.{page_head, page_kinds, page_name}
use Rattle.result_pages.proofs.results_page.ResultsPageApiType.fits.Goals as goal

pub returns : goal.returns
returns g c =
    type_each (page_name g.T.ApiType.name_of) page_head (page_kinds g.T.ApiType.definitions_of g.T.ApiType.desc_of) refl false _ (c.fits.ensures, (c.fits-2.ensures, tt))
