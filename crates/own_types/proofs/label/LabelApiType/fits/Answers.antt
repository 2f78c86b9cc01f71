use Rattle.std.proofs.Common.{Some, None}
use Rattle.api_types.proofs.CallerLemmas.{words_each}
use Rattle.own_types.proofs.label.LabelApiType.fits.Goals as goal

pub returns : goal.returns
returns c = words_each (Some 1) (Some 16) None c.args.self.now c.text.ensures.right
