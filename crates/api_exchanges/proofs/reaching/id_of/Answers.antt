use Rattle.std.proofs.Common.{◌≡◌, refl, sym, ap, ◌∙◌, subst}
use Rattle.std.specs.Str.{encode_utf8_all}
use Rattle.std.proofs.lemmas.Str.{encodes-chars}
use Rattle.http_header.specs.FieldValue.{IsFieldValue}
use Rattle.request_parts.specs.Requests.{Request}
use Rattle.api_exchanges.proofs.reaching.id_of.Goals as goal

pub returns-in-Ok : goal.returns-in-Ok
returns-in-Ok c =
    let same : c.request.inside.request_id ≡ c.args.request.now.request_id =
    ap (λ (request : Request). request.request_id) c.request.view_is in
    let bytes : encode_utf8_all c.args.request.now.request_id ≡ c.as_str.result.now =
    ap encode_utf8_all (sym same ∙ c.as_str.ensures) ∙ encodes-chars c.as_str.result.now c.as_str.utf8 in
    record {
      id = c.in-Ok.ensures.ok ∙ sym c.as_str.ensures ∙ same;
      valid = subst IsFieldValue (sym bytes) (c.in-Ok.ensures.valid (λ is. cc is));
      bad = tt;
    }

pub returns-in-Err-OutOfMemory : goal.returns-in-Err-OutOfMemory
returns-in-Err-OutOfMemory c =
    let same : c.request.inside.request_id ≡ c.args.request.now.request_id =
    ap (λ (request : Request). request.request_id) c.request.view_is in
    let bytes : encode_utf8_all c.args.request.now.request_id ≡ c.as_str.result.now =
    ap encode_utf8_all (sym same ∙ c.as_str.ensures) ∙ encodes-chars c.as_str.result.now c.as_str.utf8 in
    let told = rw c.in-Err-OutOfMemory.field-0-is at c.in-Err-OutOfMemory.ensures in
    record {
      id = tt;
      valid = subst IsFieldValue (sym bytes) (told.valid (λ is. cc is));
      bad = tt;
    }

pub returns-in-Err-BadRequestId : goal.returns-in-Err-BadRequestId
returns-in-Err-BadRequestId c =
    let same : c.request.inside.request_id ≡ c.args.request.now.request_id =
    ap (λ (request : Request). request.request_id) c.request.view_is in
    let bytes : encode_utf8_all c.args.request.now.request_id ≡ c.as_str.result.now =
    ap encode_utf8_all (sym same ∙ c.as_str.ensures) ∙ encodes-chars c.as_str.result.now c.as_str.utf8 in
    let told = rw c.in-Err-BadRequestId.field-0-is at c.in-Err-BadRequestId.ensures in
    record {
      id = tt;
      valid = tt;
      bad = (refl, λ id. told.bad.0 refl (subst IsFieldValue bytes id));
    }
