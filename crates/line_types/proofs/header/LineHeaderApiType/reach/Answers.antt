use Rattle.line_types.proofs.Headers.{line_reaches}
use Rattle.line_types.proofs.header.LineHeaderApiType.reach.Goals as goal

pub returns : goal.returns
returns c = line_reaches
