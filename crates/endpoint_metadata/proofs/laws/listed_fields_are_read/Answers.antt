use Rattle.endpoint_metadata.proofs.Structs.{open_fields}
use Rattle.endpoint_metadata.proofs.laws.listed_fields_are_read.Goals as goal

pub returns : goal.returns
returns c = open_fields
