use Rattle.openapi_values.proofs.ListedResponses.{responses-conform}
use Rattle.openapi_values.proofs.laws.responses_conform.Goals as goal

pub returns : goal.returns
returns c = responses-conform
