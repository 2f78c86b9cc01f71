-- The JSON of an error's body is not empty, and so comes as one frame.
use Rattle.std.proofs.Common.{◌≡◌, ℕ, List, [], ◌∷◌, refl, ap}
use Rattle.std.specs.Str.{encode_utf8_all}
use Rattle.schema_values.specs.Pretty.{pretty_of}
use Rattle.schema_values.proofs.CallerLemmas.{pretty-Object}
use Rattle.http_bodies.specs.Frames.{content_frames}
use Rattle.http_bodies.specs.Bodies.{never_failing}
use Rattle.http_bodies.specs.declared.frame.Frame.TheVariants.{Bytes}
use Rattle.http_status.specs.ErrorBodies.{error_body_json}
use Rattle.http_status.specs.Responses.{pretty_body}
use Rattle.http_status.specs.declared.error_body.HttpErrorResponseBody.{HttpErrorResponseBody}

framed : (text rest : List ℕ) → text ≡ 123 ∷ rest → content_frames (encode_utf8_all text) ≡ Bytes (encode_utf8_all text) ∷ []
unfolding lib.Utf8.encode
framed text rest is = rw is refl

pub one_frame : (body : HttpErrorResponseBody) → never_failing (content_frames (encode_utf8_all (pretty_of (error_body_json body)))) ≡ pretty_body (error_body_json body)
one_frame body = ap never_failing (framed (pretty_of (error_body_json body)) _ (ap (λ text. text 0) (pretty-Object _)))
