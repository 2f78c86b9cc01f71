use Rattle.std.proofs.Common.{ap, refl, subst, sym, true≢false, ◌∙◌}
use Rattle.std.proofs.lemmas.Str.{encodes-chars}
use Rattle.std.specs.Str.{encode_utf8_all}
use Rattle.http_header.specs.FieldValue.{IsFieldValue}
use Rattle.http_status.proofs.request_id.RequestId.new.Goals as goal

-- a header field may hold the bytes of the text
pub invariant_of-result : goal.invariant_of-result
invariant_of-result c =
    let valid = c.is_field_value.ensures.0 c.if-not-is_field_value.false in
    subst IsFieldValue (sym (ap encode_utf8_all c.in_ok-text.ensures ∙ encodes-chars _ c.utf8.text)) (rw c.as_bytes.ensures.value at valid)

pub returns-then-not-is_field_value-clause-bad : goal.returns-then-not-is_field_value-clause-bad
returns-then-not-is_field_value-clause-bad c = (
  λ e valid. true≢false (sym (c.is_field_value.ensures.1 (rw (← c.as_bytes.ensures.value) at valid)) ∙ c.if-not-is_field_value.true),
  λ n. refl,
)
