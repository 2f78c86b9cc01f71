use Rattle.http_status.proofs.error_body.HttpErrorResponseBody.to_json.Goals as goal

-- each call adds its members behind the earlier ones
pub returns : goal.returns
returns c = rw (c.in_ok-push_text-2.ensures, c.in_ok-push_code.ensures, c.in_ok-push_text.ensures, c.new-members.ensures)
