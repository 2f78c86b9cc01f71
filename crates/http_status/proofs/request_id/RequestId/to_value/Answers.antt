use Rattle.std.proofs.Common.{ap, refl, subst, sym, ◌∙◌}
use Rattle.std.proofs.lemmas.Str.{encodes-chars}
use Rattle.std.specs.Str.{encode_utf8_all}
use Rattle.http_header.specs.FieldValue.{IsFieldValue, plain_value}
use Rattle.http_status.proofs.request_id.RequestId.to_value.Goals as goal

-- a header field may hold the bytes of the text
pub unreachable-requires : goal.unreachable-requires
unreachable-requires c =
    let told = rw c.in-Err-Invalid.field-0-is at c.in-Err-Invalid.ensures in
    let bytes = ap encode_utf8_all c.as_str.ensures ∙ encodes-chars _ c.as_str.utf8 in
    told.invalid.0 refl (subst IsFieldValue bytes c.self.invariant)

pub returns-in-Ok : goal.returns-in-Ok
returns-in-Ok c =
    let bytes = ap encode_utf8_all (sym c.self.view_is ∙ c.as_str.ensures) ∙ encodes-chars _ c.as_str.utf8 in
    c.in-Ok.ensures.ok ∙ ap plain_value (sym bytes)
