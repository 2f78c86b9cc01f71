-- What errors are told as.
use Rattle.std.specs.Prelude.{ℕ, List, ◌++◌, codes}
use Rattle.std.specs.Fmt.{decimal}
use Rattle.page_tokens.specs.declared.token_error.TokenError.{TokenError}
use Rattle.page_tokens.specs.declared.token_error.TokenError.TheVariants.{TooLarge, NotBase64, Corrupted, OutOfMemory}

-- why a token is not written or not read, as `too large: 516 bytes, of at most 512`
abbrev pub token_error_text : TokenError → List ℕ
token_error_text (TooLarge size) = codes "too large: " ++ decimal size ++ codes " bytes, of at most 512"
token_error_text NotBase64 = codes "not base64"
token_error_text Corrupted = codes "corrupted token"
token_error_text OutOfMemory = codes "out of memory"
