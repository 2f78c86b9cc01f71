use Rattle.std.proofs.Common.{◌≡◌, ◌≢◌, ◌∙◌, ℕ, Global, IsUtf8, List, String, ap, chars, refl, string_bytes}
use Rattle.std.proofs.Common.{subst, sym}
use Rattle.std.proofs.lemmas.Result.{err_from_is_err_and}
use Rattle.std.proofs.lemmas.Str.{encodes-chars}
use Rattle.std.specs.Str.{encode_utf8_all}
use Rattle.http_uri.specs.Error.{IsOutOfMemory}
use Rattle.http_uri.specs.declared.error.UriError.{UriError}
use Rattle.http_uri.specs.declared.error.UriError.TheVariants.{Invalid, OutOfMemory}
use Rattle.http_uri.specs.Uri.{Spells, uri_authority, uri_data, uri_scheme}
use Rattle.request_lines.specs.declared.line_error.LineError.TheVariants.{Bad}
use Rattle.request_lines.proofs.request_head.read_target.Goals as goal

-- the bytes of a text that is moved
moved : (text bytes : List ℕ) (target : String Global) → text ≡ chars (string_bytes target)
    → bytes ≡ string_bytes target → IsUtf8 bytes → encode_utf8_all text ≡ string_bytes target
moved text bytes target is same valid =
    ap encode_utf8_all is ∙ ap (λ b. encode_utf8_all (chars b)) (sym same) ∙ encodes-chars bytes valid ∙ same

-- an error that is no want of memory
no_memory : (error : UriError) → error ≢ OutOfMemory → ¬ IsOutOfMemory error
no_memory (Invalid flaw) other memory = cc memory
no_memory OutOfMemory other memory = other refl

pub returns-clause-spells : goal.returns-clause-spells
returns-clause-spells c =
    rw (moved c.args.text c.as_str-text.result.now c.into_string-target.result c.into_string-target.ensures
    c.as_str-text.ensures.value c.as_str-text.utf8) c.in_ok-from_string.ensures.ok

pub returns-in_err-from_string-clause-bad : goal.returns-in_err-from_string-clause-bad
returns-in_err-from_string-clause-bad c bad uri spells =
    let made = err_from_is_err_and c.from_residual.result c.from_residual.ensures.1 in
    let is : made.0 ≡ Bad = cc (made.1, bad) in
    c.in_err-from_string.ensures.err (no_memory _ (made.2.0 is))
    (uri_scheme uri) (uri_authority uri) (uri_data uri) (subst (λ text. Spells text uri)
    (moved c.args.text c.as_str-text.result.now c.into_string-target.result c.into_string-target.ensures
    c.as_str-text.ensures.value c.as_str-text.utf8) spells)
