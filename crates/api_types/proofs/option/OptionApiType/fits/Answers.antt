use Rattle.api_types.proofs.Composites.{none_each, some_each}
use Rattle.api_types.proofs.option.OptionApiType.fits.Goals as goal

pub returns-in-Some : goal.returns-in-Some
returns-in-Some g c = rw c.in-Some.is (some_each g.T.ApiType.definitions_of g.T.ApiType.desc_of (g.T.ApiType.tree_of c.in-Some.value) c.fits.ensures)

pub returns-in-None : goal.returns-in-None
returns-in-None g c = rw c.in-None.is (none_each g.T.ApiType.definitions_of g.T.ApiType.desc_of)
