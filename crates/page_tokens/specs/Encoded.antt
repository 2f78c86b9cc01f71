-- What a token encodes: a JSON text (RFC 8259), as base64 of the URL-safe alphabet with padding (RFC 4648,
-- section 5).
use Rattle.std.specs.Prelude.{◌≡◌, ◌⊎◌, ℕ, ◌<◌, ◌≤◌, ⊤, List, length, Result, Ok, Err}
use Rattle.std.specs.Str.{encode_utf8_all}
use Rattle.base64.specs.declared.decode.DecodeError.{DecodeError}
use Rattle.base64.specs.Engines.{url_safe}
use Rattle.base64.specs.GeneralPurpose.{encode_of, decode_of}
use Rattle.schema_values.specs.declared.json_value.Json.{Json}
use Rattle.schema_values.specs.Print.{compact_of}
use Rattle.schema_values.specs.Reading.{Reads}
use Rattle.page_tokens.specs.declared.token_error.TokenError.{TokenError}
use Rattle.page_tokens.specs.declared.token_error.TokenError.TheVariants.{TooLarge, NotBase64, OutOfMemory}

-- the base64 of the compact text of a value
abbrev pub encoding_of : Json → List ℕ
encoding_of json = encode_of url_safe (encode_utf8_all (compact_of json))

-- the token has at most 512 bytes, which are the base64 of bytes that read as the value
pub record EncodesJson (token : List ℕ) (json : Json) : Type 0 where
  pub bytes : List ℕ
  pub small : length token ≤ 512
  pub decodes : decode_of url_safe token ≡ Ok bytes
  pub reads : Reads bytes json

-- the token is no base64
abbrev pub IsNotBase64 : List ℕ → Type 0
IsNotBase64 token = (error : DecodeError) × (decode_of url_safe token ≡ Err error)

-- why a token is not decoded
abbrev pub IsUndecoded : List ℕ → TokenError → Type 0
IsUndecoded token NotBase64 = IsNotBase64 token
IsUndecoded token OutOfMemory = ⊤
IsUndecoded token _ = ⊥

-- why a token is not written: it is too large, or memory is wanting
abbrev pub IsUnwritten : List ℕ → TokenError → Type 0
IsUnwritten token (TooLarge size) = (512 < length token) × (size ≡ length token)
IsUnwritten token OutOfMemory = ⊤
IsUnwritten token _ = ⊥

-- the error is told, unless memory runs out
abbrev pub IsTold : {T : Type 0} → Result T TokenError → TokenError → Type 0
IsTold result error = (result ≡ Err error) ⊎ (result ≡ Err OutOfMemory)
