use Rattle.std.proofs.Common.{None, refl}
use Rattle.api_types.proofs.Leaves.{words_each}
use Rattle.api_types.proofs.text.TextApiType.fits.Goals as goal

pub returns : goal.returns
returns c = words_each None None None c.args.self.now refl
