use Rattle.std.proofs.Common.{ap, sym}
use Rattle.http_status.specs.ErrorBodies.{error_body}
use Rattle.http_status.specs.Responses.{pretty_body}
use Rattle.http_status.proofs.WrittenBodies.{body_written}
use Rattle.http_status.proofs.error.HttpError.into_response.Goals as goal

-- the body is that of its tree
pub returns-clause-documented : goal.returns-clause-documented
returns-clause-documented c = λ table is_table. rw (c.in_ok-pretty.ensures, c.in_ok-request_id.ensures, ← c.text.ensures.characters) (ap pretty_body (sym (body_written table is_table (error_body c.args.self c.args.request_id.now))))
