use Rattle.api_extract.proofs.ReadValues.{read_value, value_reads}
use Rattle.api_extract.proofs.laws.values_are_read.Goals as goal

pub returns : goal.returns
returns c bytes json = (value_reads bytes json, read_value bytes json)
