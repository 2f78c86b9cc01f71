use Rattle.std.proofs.Common.{ap, subst, sym}
use Rattle.std.specs.Str.{encode_utf8_all}
use Rattle.http_header.specs.FieldValue.{IsFieldValue}
use Rattle.http_status.proofs.request_id.RequestId.copy.Goals as goal

pub invariant_of-result : goal.invariant_of-result
invariant_of-result c = subst IsFieldValue (ap encode_utf8_all (sym c.in_ok-copy.ensures)) c.self.invariant
