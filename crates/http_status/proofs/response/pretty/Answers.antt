use Rattle.std.proofs.Common.{ap, ◌∙◌}
use Rattle.std.specs.Str.{encode_utf8_all}
use Rattle.schema_values.specs.Pretty.{pretty_of}
use Rattle.http_bodies.specs.Frames.{content_frames}
use Rattle.http_bodies.specs.Bodies.{never_failing}
use Rattle.http_status.proofs.OneFrame.{one_frame}
use Rattle.http_status.proofs.response.pretty.Goals as goal

-- the text of the body is one frame
pub returns : goal.returns
returns c =
    c.with_content.ensures
    ∙ ap (λ bytes. never_failing (content_frames bytes)) c.into_bytes.ensures
    ∙ ap (λ text. never_failing (content_frames (encode_utf8_all text))) c.in_ok-text.ensures.text
    ∙ ap (λ json. never_failing (content_frames (encode_utf8_all (pretty_of json)))) c.in_ok-to_json.ensures
    ∙ one_frame c.args.body
