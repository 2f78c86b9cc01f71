use Rattle.std.proofs.Common.{subst}
use Rattle.page_tokens.specs.declared.token_error.TokenError.{TokenError}
use Rattle.page_tokens.specs.declared.token_error.TokenError.TheVariants.{Corrupted}
use Rattle.page_tokens.specs.Forms.{v1}
use Rattle.page_tokens.specs.Tokens.{IsTokenRefused}
use Rattle.api_extract.proofs.TokenLemmas.{token_reads, token_told}
use Rattle.api_extract.proofs.pages.decode_token.Goals as goal

pub returns-in-Ok : goal.returns-in-Ok
returns-in-Ok c =
    token_reads c.args.selector_table.now c.args.selector.now c.args.token.now c.in-Ok.tree c.in-Ok.ensures.reads

pub returns-in-Err-Corrupted : goal.returns-in-Err-Corrupted
returns-in-Err-Corrupted c =
    let table = c.args.selector_table.now in
    let selector = c.args.selector.now in
    let token = c.args.token.now in
    let refused = subst (λ (e : TokenError). IsTokenRefused v1 table selector token e)
    c.in-Err-Corrupted.field-0-is c.in-Err-Corrupted.ensures.refused in
    rw (token_told table selector token Corrupted refused) c.whole_fault-in-Err-Corrupted.ensures
