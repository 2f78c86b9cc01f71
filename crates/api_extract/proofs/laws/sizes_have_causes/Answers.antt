use Rattle.api_extract.proofs.SizeCauses.{all_sized}
use Rattle.api_extract.proofs.laws.sizes_have_causes.Goals as goal

pub returns : goal.returns
returns c terms slots request body = all_sized terms request body slots
