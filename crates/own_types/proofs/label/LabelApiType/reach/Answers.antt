use Rattle.std.proofs.Common.{Some, None}
use Rattle.api_types.proofs.CallerLemmas.{words_reach}
use Rattle.own_types.proofs.label.LabelApiType.reach.Goals as goal

pub returns : goal.returns
returns c = words_reach (Some 1) (Some 16) None
