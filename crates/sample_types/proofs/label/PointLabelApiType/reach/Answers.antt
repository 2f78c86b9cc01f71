use Rattle.std.proofs.Common.{Some, None}
use Rattle.api_types.proofs.CallerLemmas.{words_reach}
use Rattle.sample_types.proofs.label.PointLabelApiType.reach.Goals as goal

pub returns : goal.returns
returns c = words_reach (Some 1) None None
