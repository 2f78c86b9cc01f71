use Rattle.request_words.proofs.AfterPrefix.{stripped}
use Rattle.request_words.proofs.words.bytes_after.Goals as goal

pub returns : goal.returns
returns c = stripped c.args.prefix.now c.args.bytes.now c.strip_prefix.result c.strip_prefix.ensures.cases
