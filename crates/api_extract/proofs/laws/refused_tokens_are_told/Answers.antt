use Rattle.api_extract.proofs.TokenLemmas.{token_told}
use Rattle.api_extract.proofs.laws.refused_tokens_are_told.Goals as goal

pub returns : goal.returns
returns c table selector token error = token_told table selector token error
