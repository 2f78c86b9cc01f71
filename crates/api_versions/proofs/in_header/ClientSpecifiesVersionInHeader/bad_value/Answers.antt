use Rattle.std.specs.Prelude.{◌≡◌, None, IfOk}
use Rattle.std.proofs.Common.{◌∙◌, ap, subst}
use Rattle.std.specs.Str.{chars}
use Rattle.http_status.specs.Errors.{bad_request}
use Rattle.api_versions.specs.HeaderVersions.{HeaderPolicy, bad_value_message}
use Rattle.api_versions.proofs.in_header.ClientSpecifiesVersionInHeader.bad_value.Goals as goal

pub returns : goal.returns
returns c =
    let reason = c.args.reason.now in
    let by_name = ap (λ (policy : HeaderPolicy). bad_value_message policy.name reason) c.self.view_is in
    subst (λ text. IfOk c.bad_request.result (λ error. error ≡ bad_request None (chars text)))
    (c.in_ok-format.ensures.ok ∙ by_name) c.bad_request.ensures
