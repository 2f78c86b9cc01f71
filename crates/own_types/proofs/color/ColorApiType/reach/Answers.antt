use Rattle.own_types.proofs.Colors.{color_reaches}
use Rattle.own_types.proofs.color.ColorApiType.reach.Goals as goal

pub returns : goal.returns
returns c = color_reaches
