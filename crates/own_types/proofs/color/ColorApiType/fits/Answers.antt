use Rattle.own_types.proofs.Colors.{color_each}
use Rattle.own_types.proofs.color.ColorApiType.fits.Goals as goal

pub returns : goal.returns
returns c = rw (← c.place.ensures.is) (color_each c.place.result c.place.ensures.below)
