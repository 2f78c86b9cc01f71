use Rattle.std.proofs.Common.{◌≡◌, false, true, None, ap, codes, is_some, refl, sym, ◌∙◌}
use Rattle.descriptors.proofs.CallerLemmas.{other_name}
use Rattle.openapi_values.specs.Admits.{method_member}
use Rattle.endpoint_checks.proofs.paths.has_member.Goals as goal

pub returns-in_default : goal.returns-in_default
returns-in_default c =
    let method = c.args.method.now in
    let is = c.as_str.ensures.value in
    let no_get = other_name (codes "GET") method (λ e. c.in_default.not-GET (is ∙ sym e)) in
    let no_put = other_name (codes "PUT") method (λ e. c.in_default.not-PUT (is ∙ sym e)) in
    let no_post = other_name (codes "POST") method (λ e. c.in_default.not-POST (is ∙ sym e)) in
    let no_delete = other_name (codes "DELETE") method (λ e. c.in_default.not-DELETE (is ∙ sym e)) in
    let no_options = other_name (codes "OPTIONS") method (λ e. c.in_default.not-OPTIONS (is ∙ sym e)) in
    let no_head = other_name (codes "HEAD") method (λ e. c.in_default.not-HEAD (is ∙ sym e)) in
    let no_patch = other_name (codes "PATCH") method (λ e. c.in_default.not-PATCH (is ∙ sym e)) in
    let no_trace = other_name (codes "TRACE") method (λ e. c.in_default.not-TRACE (is ∙ sym e)) in
    let none : method_member method ≡ None = rw (no_get, no_put, no_post, no_delete, no_options, no_head, no_patch, no_trace) refl in
    (λ h. absurd (cc h), λ some. let clash : false ≡ true = ap is_some (sym none) ∙ some in cc clash)
