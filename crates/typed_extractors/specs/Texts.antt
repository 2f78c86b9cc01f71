-- Why the bytes of a body are no text (of this library; UTF-8 is RFC 3629).
use Rattle.std.specs.Prelude.{◌≡◌, ⊤, None, codes}
use Rattle.http_status.specs.declared.error.HttpError.{HttpError}
use Rattle.http_status.specs.declared.refusal.HttpRefusal.{HttpRefusal}
use Rattle.http_status.specs.declared.refusal.HttpRefusal.TheVariants.{Http, OutOfMemory}
use Rattle.http_status.specs.Errors.{bad_request}

-- 400, without a code
abbrev pub not_utf8 : HttpError
not_utf8 = bad_request None (codes "failed to parse body as UTF-8 string")

-- a refusal is that error, or tells want of memory for it
abbrev pub IsNotText : HttpRefusal → Type 0
IsNotText (Http error) = error ≡ not_utf8
IsNotText OutOfMemory = ⊤
