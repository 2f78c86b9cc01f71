-- The bytes of base64 are ASCII, and what the engine writes it reads.
use Rattle.std.proofs.Common.{◌≡◌, ℕ, List, true, chars, refl, arith}
use Rattle.std.proofs.lemmas.Str.{chars-IsAscii}
use Rattle.std.proofs.lemmas.Str.Ascii.{encodes-IsAscii}
use Rattle.std.specs.Str.{IsAscii, encode_utf8_all}
use Rattle.base64.proofs.Encoding.{IsAscii-encode}
use Rattle.base64.specs.Engines.{url_safe}
use Rattle.base64.specs.GeneralPurpose.{IsConsistent, encode_of}
use Rattle.schema_values.proofs.CallerLemmas.{IsAscii-from_test}

pub consistent : IsConsistent url_safe
consistent = refl

IsAscii-encode_of : (bytes : List ℕ) → IsAscii (encode_of url_safe bytes)
IsAscii-encode_of bytes = IsAscii-encode url_safe.encode_table 61 true bytes (IsAscii-from_test url_safe.encode_table refl) (omega arith)

-- its characters are its bytes
pub chars-encode_of : (bytes : List ℕ) → chars (encode_of url_safe bytes) ≡ encode_of url_safe bytes
chars-encode_of bytes = chars-IsAscii (encode_of url_safe bytes) (IsAscii-encode_of bytes)

-- and its bytes are its characters
pub encode_utf8_all-encode_of : (bytes : List ℕ) → encode_utf8_all (encode_of url_safe bytes) ≡ encode_of url_safe bytes
encode_utf8_all-encode_of bytes = encodes-IsAscii (encode_of url_safe bytes) (IsAscii-encode_of bytes)
