use Rattle.std.proofs.Common.{append_assoc, refl}
use Rattle.http_status.proofs.response.lines.Goals as goal

-- one line behind the other
pub returns : goal.returns
returns c =
    rw (c.in_ok-append-2.ensures.ok, c.in_ok-append.ensures.ok, c.unwrap_or-lines.ensures, c.new.ensures, c.in_ok-id.ensures, c.from_static.ensures, c.from_static-2.ensures, append_assoc) refl
