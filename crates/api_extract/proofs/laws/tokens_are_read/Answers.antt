use Rattle.api_extract.proofs.TokenLemmas.{token_reads, told_reads}
use Rattle.api_extract.proofs.laws.tokens_are_read.Goals as goal

pub returns : goal.returns
returns c table selector token tree = (told_reads table selector token tree, token_reads table selector token tree)
