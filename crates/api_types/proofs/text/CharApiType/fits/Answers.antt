use Rattle.std.proofs.Common.{[], ◌∷◌, refl}
use Rattle.api_types.proofs.Leaves.{character_each}
use Rattle.api_types.proofs.text.CharApiType.fits.Goals as goal

pub returns : goal.returns
returns c = character_each (c.args.self.now ∷ []) refl
