use Rattle.api_extract.proofs.Limits.{read_within}
use Rattle.api_extract.proofs.laws.requests_within_limits_are_read.Goals as goal

pub returns : goal.returns
returns c terms slots request body within = read_within terms request body within slots
