use Rattle.written_texts.proofs.ListedFields.{header_listed, path_listed, query_listed}
use Rattle.written_texts.proofs.laws.fields_are_listed.Goals as goal

pub returns : goal.returns
returns c = record { path = path_listed; query = query_listed; header = header_listed }
