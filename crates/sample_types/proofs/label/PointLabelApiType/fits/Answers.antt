use Rattle.std.proofs.Common.{Some, None}
use Rattle.api_types.proofs.CallerLemmas.{words_each}
use Rattle.sample_types.proofs.label.PointLabelApiType.fits.Goals as goal

pub returns : goal.returns
returns c = words_each (Some 1) None None c.args.self.now c.text.ensures.right
